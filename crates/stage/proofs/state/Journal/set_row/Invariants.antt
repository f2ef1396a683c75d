use Rattle.std.proofs.Common.{◌≡◌, ◌+◌, ◌-◌, ◌≤◌}
use Rattle.cdf.specs.Lists.{from}
use Rattle.stage.specs.Cells.{logged_cells, change_each}
use Rattle.stage.specs.Lanes.{OnlySpots}
use Rattle.stage.specs.View.{marks_of}
use Rattle.stage.proofs.state.Journal.set_row.Given as goal

-- changing what is left gives what changing all gives
abbrev pub invariant-loop-at : goal.invariant-loop-at
invariant-loop-at l =
    OnlySpots l.self l.initial.self
    × (l.first ≤ l.at)
    × (l.self.used.spots + l.first ≤ l.initial.self.used.spots + l.at)
    × (change_each (marks_of l.initial.self) l.change (from l.at (l.first + l.width - l.at)) (logged_cells l.cells l.spots l.self.used.spots)
    ≡ change_each (marks_of l.initial.self) l.change (from l.first l.width) (logged_cells l.initial.cells l.initial.spots l.initial.self.used.spots))
