use Rattle.std.proofs.Common.{◌≡◌, rules}
use Rattle.std.proofs.lemmas.Result.{err_from_is_err_and}
use Rattle.av1.specs.declared.mv.MvSubpelPrecision.TheVariants as precision
use Rattle.stage.proofs.ReadVectors.{as_wide, fraction_read}
use Rattle.stage.proofs.reader.Reader.read_fraction.Goals as goal

pub returns-in_err-fr-clause-reads : goal.returns-in_err-fr-clause-reads
returns-in_err-fr-clause-reads g c =
    let some : c.args.precision ≡ precision.MV_SUBPEL_NONE → ⊥ = search rules in
    let p = err_from_is_err_and c.from_residual.result c.from_residual.ensures.1 in
    rw (p.1, p.2) (fraction_read c.fraction.result.first c.fraction.result.n c.args.tables.base c.args.precision c.args.class c.args.d some c.fraction.ensures c.in_err-fr.ensures.reads)

pub returns-clause-reads : goal.returns-clause-reads
returns-clause-reads g c =
    let some : c.args.precision ≡ precision.MV_SUBPEL_NONE → ⊥ = search rules in
    as_wide c.in_ok-fr.fr c.from.result c.from.ensures
    (fraction_read c.fraction.result.first c.fraction.result.n c.args.tables.base c.args.precision c.args.class c.args.d some c.fraction.ensures c.in_ok-fr.ensures.reads)
