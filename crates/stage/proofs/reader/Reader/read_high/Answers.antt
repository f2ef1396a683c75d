use Rattle.std.proofs.Common.{◌≡◌, rules}
use Rattle.std.proofs.lemmas.Result.{err_from_is_err_and}
use Rattle.av1.specs.declared.mv.MvSubpelPrecision.TheVariants as precision
use Rattle.stage.proofs.ReadVectors.{as_wide, high_read}
use Rattle.stage.proofs.reader.Reader.read_high.Goals as goal

pub returns-in_err-hp-clause-reads : goal.returns-in_err-hp-clause-reads
returns-in_err-hp-clause-reads g c =
    let all : c.args.precision ≡ precision.MV_SUBPEL_HIGH_PRECISION = search rules in
    let p = err_from_is_err_and c.from_residual.result c.from_residual.ensures.1 in
    rw (p.1, p.2) (high_read c.high.result.first c.high.result.n c.args.tables.base c.args.precision c.args.class all c.high.ensures c.in_err-hp.ensures.reads)

pub returns-clause-reads : goal.returns-clause-reads
returns-clause-reads g c =
    let all : c.args.precision ≡ precision.MV_SUBPEL_HIGH_PRECISION = search rules in
    as_wide c.in_ok-hp.hp c.from.result c.from.ensures
    (high_read c.high.result.first c.high.result.n c.args.tables.base c.args.precision c.args.class all c.high.ensures c.in_ok-hp.ensures.reads)
