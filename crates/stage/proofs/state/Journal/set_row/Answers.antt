use Rattle.std.proofs.Common.{◌+◌, ◌<◌, ap, arith, rules}
use Rattle.stage.specs.Cells.{change_one}
use Rattle.stage.proofs.Places.{next_turn}
use Rattle.stage.proofs.Symbols.{only_spots_then, same_marks}
use Rattle.stage.proofs.state.Journal.set_row.Goals as goal

pub loop-at-preserved : goal.loop-at-preserved
loop-at-preserved c =
    let inv = c.loop-at.invariant in
    let kept = c.set_cell.ensures.kept in
    let here : c.loop-at.at < c.args.first + c.args.width = search rules in (
      only_spots_then _ _ _ kept inv.0,
      omega (arith, inv.1),
      omega (arith, c.set_cell.ensures.used, inv.2),
      next_turn _ _ c.loop-at.at (c.args.first + c.args.width) _ _ _ here (ap (λ ms. change_one ms c.args.change) (same_marks _ _ inv.0)) c.set_cell.ensures.cells inv.3,
    )
