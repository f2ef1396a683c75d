use Rattle.std.proofs.Common.{◌≡◌, Some, rules}
use Rattle.std.proofs.lemmas.Result.{err_from_is_err_and}
use Rattle.av1.specs.Alphas.{alpha_context, sign_number}
use Rattle.model.proofs.TreeTables.{alpha_in_layout}
use Rattle.stage.proofs.ReadAlphas.{alpha_read, alpha_stops}
use Rattle.stage.proofs.reader.Reader.read_alpha.Goals as goal

pub invariant_of-table : goal.invariant_of-table
invariant_of-table g c = record { there = alpha_in_layout c.in-Some.context (search rules) }

pub returns-in_err-symbol : goal.returns-in_err-symbol
returns-in_err-symbol g c =
    let coded : Some c.in-Some.context ≡ alpha_context (sign_number c.args.sign) (sign_number c.args.other) = search rules in
    let p = err_from_is_err_and c.from_residual.result c.from_residual.ensures.1 in
    rw (p.1, p.2) (alpha_stops c.args.start _ _ (sign_number c.args.sign) (sign_number c.args.other) c.in-Some.context c.in_err-symbol.field-0.0 coded c.in_err-symbol.ensures.reads)

pub returns : goal.returns
returns g c =
    let coded : Some c.in-Some.context ≡ alpha_context (sign_number c.args.sign) (sign_number c.args.other) = search rules in
    alpha_read c.args.start _ _ (sign_number c.args.sign) (sign_number c.args.other) c.in-Some.context c.in_ok-symbol.symbol _ coded c.in_ok-symbol.ensures.reads (search rules)
