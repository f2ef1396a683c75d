use Rattle.std.proofs.Common.{◌≡◌, ◌+◌, ◌*◌, true, to_z, of_z, w32, rules}
use Rattle.std.proofs.lemmas.Result.{err_from_is_err_and}
use Rattle.av1.specs.Vectors.{class_base, signed}
use Rattle.stage.proofs.ReadPoints.{after_that, made, stops, stops_made}
use Rattle.stage.proofs.ReadVectors.{as_wide, coded_if}
use Rattle.stage.proofs.Vectors.{classes_in_layout, sign_in_layout}
use Rattle.stage.proofs.reader.Reader.read_mv_component.Goals as goal

pub invariant_of-signs : goal.invariant_of-signs
invariant_of-signs g c = record { there = sign_in_layout c.args.tables.base c.args.tables.one }

pub invariant_of-classes : goal.invariant_of-classes
invariant_of-classes g c = record { there = classes_in_layout c.args.tables.base c.args.tables.one }

pub returns-in_err-sign : goal.returns-in_err-sign
returns-in_err-sign g c =
    let coded : c.args.coded ≡ true = search rules in
    let p = err_from_is_err_and c.from_residual.result c.from_residual.ensures.1 in
    rw (p.1, p.2) (coded_if c.args.tables.base c.args.precision c.args.coded coded (stops _ c.in_err-sign.ensures.reads))

pub returns-in_err-class : goal.returns-in_err-class
returns-in_err-class g c =
    let coded : c.args.coded ≡ true = search rules in
    let p = err_from_is_err_and c.from_residual-in_err-class.result c.from_residual-in_err-class.ensures.1 in
    rw (p.1, p.2) (coded_if c.args.tables.base c.args.precision c.args.coded coded (after_that _ c.in_ok-sign.ensures.reads (stops _ c.in_err-class.ensures.reads)))

pub returns-in_err-d : goal.returns-in_err-d
returns-in_err-d g c =
    let coded : c.args.coded ≡ true = search rules in
    let p = err_from_is_err_and c.from_residual-in_err-d.result c.from_residual-in_err-d.ensures.1 in
    rw (p.1, p.2) (coded_if c.args.tables.base c.args.precision c.args.coded coded (after_that _ c.in_ok-sign.ensures.reads (after_that _ (as_wide c.in_ok-class.class c.from-class.result c.from-class.ensures c.in_ok-class.ensures.reads) (stops _ c.in_err-d.ensures.reads))))

pub returns-in_err-fr : goal.returns-in_err-fr
returns-in_err-fr g c =
    let coded : c.args.coded ≡ true = search rules in
    let p = err_from_is_err_and c.from_residual-in_err-fr.result c.from_residual-in_err-fr.ensures.1 in
    rw (p.1, p.2) (coded_if c.args.tables.base c.args.precision c.args.coded coded (after_that _ c.in_ok-sign.ensures.reads (after_that _ (as_wide c.in_ok-class.class c.from-class.result c.from-class.ensures c.in_ok-class.ensures.reads) (after_that _ c.in_ok-d.ensures.reads (stops _ c.in_err-fr.ensures.reads)))))

pub returns-in_err-hp : goal.returns-in_err-hp
returns-in_err-hp g c =
    let coded : c.args.coded ≡ true = search rules in
    let p = err_from_is_err_and c.from_residual-in_err-hp.result c.from_residual-in_err-hp.ensures.1 in
    rw (p.1, p.2) (coded_if c.args.tables.base c.args.precision c.args.coded coded (after_that _ c.in_ok-sign.ensures.reads (after_that _ (as_wide c.in_ok-class.class c.from-class.result c.from-class.ensures c.in_ok-class.ensures.reads) (after_that _ c.in_ok-d.ensures.reads (after_that _ c.in_ok-fr.ensures.reads (stops_made _ c.in_err-hp.ensures.reads))))))

pub returns : goal.returns
returns g c =
    let coded : c.args.coded ≡ true = search rules in
    let value : to_z w32 (of_z w32 c.in-Some.comp) ≡ signed c.in_ok-sign.sign (class_base c.from-class.result + (8 * c.in_ok-d.d + 2 * c.in_ok-fr.fr + c.in_ok-hp.hp)) = search rules in
    coded_if c.args.tables.base c.args.precision c.args.coded coded (after_that _ c.in_ok-sign.ensures.reads (after_that _ (as_wide c.in_ok-class.class c.from-class.result c.from-class.ensures c.in_ok-class.ensures.reads) (after_that _ c.in_ok-d.ensures.reads (after_that _ c.in_ok-fr.ensures.reads (made _ c.in_ok-hp.ensures.reads value)))))
