use Rattle.std.proofs.Common.{◌≡◌, ◌+◌, ◌-◌, ◌≤◌, length}
use Rattle.cdf.specs.Lists.{from}
use Rattle.stage.specs.Contexts.{logged_bytes, set_bytes}
use Rattle.stage.specs.Lanes.{OnlySpots}
use Rattle.stage.specs.View.{marks_of}
use Rattle.stage.proofs.state.Journal.set_bytes.Given as goal

-- setting what is left gives what setting all gives
abbrev pub invariant-loop-at : goal.invariant-loop-at
invariant-loop-at l =
    OnlySpots l.self l.initial.self
    × (l.first ≤ l.at)
    × (l.self.used.spots + l.first ≤ l.initial.self.used.spots + l.at)
    × (length l.bytes ≡ length l.initial.bytes)
    × (set_bytes (marks_of l.initial.self) l.side l.byte (from l.at (l.first + l.count - l.at)) (logged_bytes l.bytes l.spots l.self.used.spots)
    ≡ set_bytes (marks_of l.initial.self) l.side l.byte (from l.first l.count) (logged_bytes l.initial.bytes l.initial.spots l.initial.self.used.spots))
