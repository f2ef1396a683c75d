-- A stage with the memory that is lent to it and the list of a sink, as a world of the model.
use Rattle.std.specs.Prelude.{ℕ, ◌*◌, List, ◌++◌, reverse, length, take, drop, replicate, Ok, Err, Result}
use Rattle.std.proofs.Math.Option.{Option, none, some}
use Rattle.av1.specs.declared.refusal.Refusal.{Refusal}
use Rattle.av1.specs.declared.tile.Cell.{Cell}
use Rattle.av1.specs.Tiles.{no_cell}
use Rattle.cdf.specs.declared.entry.Entry.{Entry}
use Rattle.cdf.specs.Words.{Table, table}
use Rattle.journal.specs.declared.Log.{Log}
use Rattle.journal.specs.declared.Mark.{Mark}
use Rattle.model.specs.Decisions.{State, stage}
use Rattle.model.specs.Runs.{World, Lane, Lent}
use Rattle.stage.specs.declared.state.Journal.{Journal}
use Rattle.stage.specs.declared.state.Stage.{Stage}
use Rattle.stage.specs.declared.state.Table.{Table as Place}
use Rattle.stage.specs.declared.state.Trial.{Trial}

abbrev pub no_mark : Mark
no_mark = record { used = record { small = 0; large = 0; spots = 0 }; entries = 0 }

-- how many trials are open, and their marks, the innermost first
abbrev pub open_trials : Journal → ℕ
open_trials j = length j.marks.items

abbrev pub marks_of : Journal → List Mark
marks_of j = reverse j.marks.items

abbrev pub lane : {R : Type 0} → List R → ℕ → Lane R
lane l n = record { memory = l; used = n }

-- the lent lanes
abbrev pub lanes : Log → Lent stage
lanes l = record { small = l.small.now; large = l.large.now; spots = l.spots.now }

abbrev pub units_of : Stage → ℕ
units_of s = s.tile.cols * s.tile.rows

-- the map's memory holds the tile's cells first
abbrev pub state_of : Stage → List Cell → State
state_of s memory =
    record {
      columns = s.tile.cols;
      rows = s.tile.rows;
      last = s.last;
      words = s.tables.words;
      above = s.contexts.above;
      left = s.contexts.left;
      cells = take (units_of s) memory;
    }

abbrev pub world_at : State → Journal → Lent stage → List Entry → World stage
world_at s j l entries =
    record {
      core = record { state = s; entries = entries };
      small = lane l.small j.used.small;
      large = lane l.large j.used.large;
      spots = lane l.spots j.used.spots;
      marks = marks_of j;
    }

abbrev pub world : Stage → List Cell → Lent stage → List Entry → World stage
world s memory l entries = world_at (state_of s memory) s.journal l entries

-- a table as the model names it
abbrev pub table_of : Place → Table
table_of t = table t.first t.n

-- the first question of a call that was answered by no
abbrev pub refused_by : {A : Type 0} → Result A Refusal → Option Refusal
refused_by (Ok a) = none
refused_by (Err e) = some e

-- a map of which the first n cells are as at the start
abbrev pub cleared : ℕ → List Cell → List Cell
cleared n memory = replicate n no_cell ++ drop n memory

-- an opening by the depth of its trial, and a keeping by its refusal
abbrev pub depth_of : Result Trial Refusal → Result ℕ Refusal
depth_of (Ok t) = Ok t.depth
depth_of (Err e) = Err e

abbrev pub kept_of : Result (Unit {0}) (Refusal × Trial) → Result (Unit {0}) Refusal
kept_of (Ok u) = Ok u
kept_of (Err e) = Err e.0
