use Rattle.std.proofs.Common.{◌≡◌, ◌+◌, ◌-◌, ◌*◌, ◌≤◌}
use Rattle.model.specs.Decisions.{block_cells}
use Rattle.stage.specs.Cells.{logged_cells, change_each}
use Rattle.stage.specs.Lanes.{OnlySpots}
use Rattle.stage.specs.View.{marks_of}
use Rattle.stage.proofs.state.Journal.set_block.Given as goal

-- changing the rows that are left gives what changing all gives
abbrev pub invariant-loop-k : goal.invariant-loop-k
invariant-loop-k l =
    OnlySpots l.self l.initial.self
    × (l.self.used.spots ≤ l.initial.self.used.spots + l.k * l.block.width)
    × (change_each (marks_of l.initial.self) l.change (block_cells l.columns l.block.width (l.block.from + l.k * l.columns) (l.block.height - l.k)) (logged_cells l.cells l.spots l.self.used.spots)
    ≡ change_each (marks_of l.initial.self) l.change (block_cells l.columns l.block.width l.block.from l.block.height) (logged_cells l.initial.cells l.initial.spots l.initial.self.used.spots))
