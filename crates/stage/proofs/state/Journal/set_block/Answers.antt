use Rattle.std.proofs.Common.{◌≡◌, ℕ, ◌+◌, ◌*◌, ◌<◌, add-mul, one-mul, arith, rules}
use Rattle.stage.proofs.Cells.{block_turn}
use Rattle.stage.proofs.Symbols.{only_spots_then, same_marks}
use Rattle.stage.proofs.state.Journal.set_block.Goals as goal

pub loop-k-preserved : goal.loop-k-preserved
loop-k-preserved c =
    let inv = c.loop-k.invariant in
    let kept = c.set_row.ensures.kept in
    let k : ℕ = c.loop-k.k in
    let wide : ℕ = c.args.block.width in
    let here : k < c.args.block.height = search rules in
    let parts : (k + 1) * wide ≡ k * wide + wide = simp (add-mul, one-mul) in (
      only_spots_then _ _ _ kept inv.0,
      omega (arith, c.set_row.ensures.used, inv.1, parts),
      block_turn _ _ c.args.change c.args.columns wide c.args.block.from k c.args.block.height _ _ _ here (same_marks _ _ inv.0) c.set_row.ensures.cells inv.2,
    )
