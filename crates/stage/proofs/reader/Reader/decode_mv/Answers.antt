use Rattle.std.proofs.Common.{ℕ, ℤ, rules}
use Rattle.std.proofs.lemmas.Result.{err_from_is_err_and}
use Rattle.model.proofs.TreeTables.{joints_in_layout}
use Rattle.av1.specs.declared.mv.MvSubpelPrecision.{MvSubpelPrecision}
use Rattle.model.specs.Tree.{Syntax, and_then, read_by}
use Rattle.model.specs.Vector.{component_if, has_col, has_row}
use Rattle.stage.proofs.ReadPoints.{after_that, made, stops, stops_made}
use Rattle.stage.proofs.ReadVectors.{cols_named, present_as, rows_named}
use Rattle.stage.proofs.reader.Reader.decode_mv.Goals as goal

-- what follows the joint
abbrev rest : MvSubpelPrecision → ℕ → Syntax (ℤ × ℤ)
rest p j = and_then (component_if (has_row j) 318 p) (λ row. read_by (λ col. (row, col)) (component_if (has_col j) 374 p))

pub invariant_of-read_entry : goal.invariant_of-read_entry
invariant_of-read_entry g c = record { there = joints_in_layout }

pub returns-in_err-joint : goal.returns-in_err-joint
returns-in_err-joint g c =
    let p = err_from_is_err_and c.from_residual.result c.from_residual.ensures.1 in
    rw (p.1, p.2) (stops (rest c.args.precision) c.in_err-joint.ensures.reads)

pub returns-in_err-row : goal.returns-in_err-row
returns-in_err-row g c =
    let p = err_from_is_err_and c.from_residual-in_err-row.result c.from_residual-in_err-row.ensures.1 in
    rw (p.1, p.2) (after_that (rest c.args.precision) c.in_ok-joint.ensures.reads (stops _ (present_as 318 c.args.precision _ (has_row c.in_ok-joint.joint) (rows_named c.in_ok-joint.joint c.in_ok-joint.ensures.below) c.in_err-row.ensures)))

pub returns-in_err-col : goal.returns-in_err-col
returns-in_err-col g c =
    let p = err_from_is_err_and c.from_residual-in_err-col.result c.from_residual-in_err-col.ensures.1 in
    rw (p.1, p.2) (after_that (rest c.args.precision) c.in_ok-joint.ensures.reads (after_that _ (present_as 318 c.args.precision _ (has_row c.in_ok-joint.joint) (rows_named c.in_ok-joint.joint c.in_ok-joint.ensures.below) c.in_ok-row.ensures) (stops_made _ (present_as 374 c.args.precision _ (has_col c.in_ok-joint.joint) (cols_named c.in_ok-joint.joint c.in_ok-joint.ensures.below) c.in_err-col.ensures))))

pub returns : goal.returns
returns g c =
    after_that (rest c.args.precision) c.in_ok-joint.ensures.reads (after_that _ (present_as 318 c.args.precision _ (has_row c.in_ok-joint.joint) (rows_named c.in_ok-joint.joint c.in_ok-joint.ensures.below) c.in_ok-row.ensures) (made _ (present_as 374 c.args.precision _ (has_col c.in_ok-joint.joint) (cols_named c.in_ok-joint.joint c.in_ok-joint.ensures.below) c.in_ok-col.ensures) (search rules)))
