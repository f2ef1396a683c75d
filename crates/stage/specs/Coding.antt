-- The symbols of a path coded in the stage: what they take, and what they make of it.
use Rattle.std.specs.Prelude.{◌≡◌, ℕ, ◌+◌, ◌<◌, ◌≤◌, List, length}
use Rattle.av1.specs.declared.tile.Cell.{Cell}
use Rattle.cdf.specs.declared.entry.Entry.{Entry}
use Rattle.journal.specs.declared.Log.{Log}
use Rattle.model.specs.Calls.{symbol_steps}
use Rattle.model.specs.Decisions.{stage}
use Rattle.model.specs.Runs.{World}
use Rattle.model.specs.Tree.{Syntax}
use Rattle.stage.specs.declared.state.Stage.{Stage}
use Rattle.stage.specs.Lanes.{SameMemory}
use Rattle.stage.specs.View.{lanes, open_trials, world}

-- a stage with the lanes lent to it and a sink: its room by its list, and its list
pub record Moment : Type 0 where
  pub stage : Stage
  pub log : Log
  pub rooms : List Entry → ℕ
  pub list : List Entry

abbrev pub moment : Stage → Log → (List Entry → ℕ) → List Entry → Moment
moment s l rooms es = record { stage = s; log = l; rooms = rooms; list = es }

-- its world, whatever the map
abbrev pub world_of : Moment → List Cell → World stage
world_of m memory = world m.stage memory (lanes m.log) m.list

-- there is room for so many symbols by tables of up to 4 symbols, and so many by larger ones
pub record RoomFor (few many : ℕ) (m : Moment) : Type 0 where
  pub entries : few + many ≤ m.rooms m.list
  pub small : 0 < open_trials m.stage.journal → m.stage.journal.used.small + few ≤ length m.log.small.now
  pub large : 0 < open_trials m.stage.journal → m.stage.journal.used.large + many ≤ length m.log.large.now

-- from one moment to another the symbols of a path were coded, so many by tables of up to 4 symbols and so many by larger ones
pub record Coded {D : Type 0} (t : Syntax D) (p : List ℕ) (few many : ℕ) (m n : Moment) : Type 0 where
  pub step : (memory : List Cell) → world_of n memory ≡ symbol_steps t p (world_of m memory)
  pub rooms : n.rooms ≡ m.rooms
  pub left : m.rooms m.list ≤ n.rooms n.list + (few + many)
  pub small : n.stage.journal.used.small ≤ m.stage.journal.used.small + few
  pub large : n.stage.journal.used.large ≤ m.stage.journal.used.large + many
  pub memory : SameMemory n.log m.log
  pub trials : open_trials n.stage.journal ≡ open_trials m.stage.journal
