use Rattle.std.proofs.Common.{◌≡◌, ◌+◌, ◌/◌, ◌%◌, rules}
use Rattle.std.proofs.lemmas.Result.{err_from_is_err_and}
use Rattle.av1.specs.Alphas.{sign_number}
use Rattle.model.proofs.TreeTables.{signs_in_layout}
use Rattle.stage.proofs.ReadAlphas.{signs_as}
use Rattle.stage.proofs.ReadPoints.{after_that, made, stops, stops_made}
use Rattle.stage.proofs.reader.Reader.decode_cfl_alphas.Goals as goal

pub invariant_of-read_entry : goal.invariant_of-read_entry
invariant_of-read_entry g c = record { there = signs_in_layout }

pub returns-in_err-joint : goal.returns-in_err-joint
returns-in_err-joint g c =
    let p = err_from_is_err_and c.from_residual.result c.from_residual.ensures.1 in
    rw (p.1, p.2) (stops _ c.in_err-joint.ensures.reads)

pub returns-in_err-u : goal.returns-in_err-u
returns-in_err-u g c =
    let u : sign_number c.in-Some.sign_u ≡ (c.in_ok-joint.joint + 1) / 3 = search rules in
    let v : sign_number c.in-Some.sign_v ≡ (c.in_ok-joint.joint + 1) % 3 = search rules in
    let p = err_from_is_err_and c.from_residual-in_err-u.result c.from_residual-in_err-u.ensures.1 in
    rw (p.1, p.2) (after_that _ c.in_ok-joint.ensures.reads (stops _ (signs_as _ _ _ _ _ _ _ _ u v c.in_err-u.ensures)))

pub returns-in_err-v : goal.returns-in_err-v
returns-in_err-v g c =
    let u : sign_number c.in-Some.sign_u ≡ (c.in_ok-joint.joint + 1) / 3 = search rules in
    let v : sign_number c.in-Some.sign_v ≡ (c.in_ok-joint.joint + 1) % 3 = search rules in
    let p = err_from_is_err_and c.from_residual-in_err-v.result c.from_residual-in_err-v.ensures.1 in
    rw (p.1, p.2) (after_that _ c.in_ok-joint.ensures.reads (after_that _ (signs_as _ _ _ _ _ _ _ _ u v c.in_ok-u.ensures) (stops_made _ (signs_as _ _ _ _ _ _ _ _ v u c.in_err-v.ensures))))

pub returns : goal.returns
returns g c =
    let u : sign_number c.in-Some.sign_u ≡ (c.in_ok-joint.joint + 1) / 3 = search rules in
    let v : sign_number c.in-Some.sign_v ≡ (c.in_ok-joint.joint + 1) % 3 = search rules in
    after_that _ c.in_ok-joint.ensures.reads (after_that _ (signs_as _ _ _ _ _ _ _ _ u v c.in_ok-u.ensures) (made _ (signs_as _ _ _ _ _ _ _ _ v u c.in_ok-v.ensures) (search rules)))
