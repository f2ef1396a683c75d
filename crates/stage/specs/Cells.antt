-- The cells of a block set one by one, each logged while a trial is open.
use Rattle.std.specs.Prelude.{◌≡◌, ℕ, ◌+◌, ◌*◌, ◌<◌, Bool, cond, List, [], ◌∷◌, slice_index_or, slice_set}
use Rattle.av1.specs.declared.size.BlockSize.{BlockSize}
use Rattle.av1.specs.declared.tile.Cell.{Cell}
use Rattle.av1.specs.declared.tile.Tile.{Tile}
use Rattle.av1.specs.Tiles.{no_cell}
use Rattle.journal.specs.declared.Mark.{Mark}
use Rattle.journal.specs.declared.Spot.{Spot}
use Rattle.journal.specs.declared.Spot.TheVariants as spot
use Rattle.model.specs.Calls.{log_if}
use Rattle.model.specs.Facts.{covers}
use Rattle.model.specs.Runs.{Lane}
use Rattle.stage.specs.declared.state.cells.Change.{Change}
use Rattle.stage.specs.declared.state.cells.Change.TheVariants as change
use Rattle.stage.specs.Places.{at_each}
use Rattle.stage.specs.View.{lane}

-- a cell with its flag or its segment set
abbrev pub changed : Change → Cell → Cell
changed (change.Skip flag) c = record { skip = flag; segment = c.segment }
changed (change.Segment id) c = record { skip = c.skip; segment = id }

-- cells with the lane that logs their changes
pub record LoggedCells : Type 0 where
  pub cells : List Cell
  pub spots : Lane Spot

abbrev pub logged_cells : List Cell → List Spot → ℕ → LoggedCells
logged_cells cells spots used = record { cells = cells; spots = lane spots used }

-- a cell set to a value
abbrev pub set_one : List Mark → ℕ → Cell → LoggedCells → LoggedCells
set_one ms i c m = record { cells = slice_set m.cells i c; spots = log_if ms m.spots (spot.Cell i (slice_index_or m.cells i no_cell) ∷ []) }

-- a cell changed, and those of a list of places one after the other
abbrev pub change_one : List Mark → Change → ℕ → LoggedCells → LoggedCells
change_one ms k i m = set_one ms i (changed k (slice_index_or m.cells i no_cell)) m

abbrev pub change_each : List Mark → Change → List ℕ → LoggedCells → LoggedCells
change_each ms k is m = at_each (change_one ms k) is m

-- of each unit of the tile, the cell is changed where the block covers it, and all else is as it was
abbrev pub CellsSet : (Cell → Cell) → Tile → ℕ → ℕ → BlockSize → List Cell → List Cell → Type 0
CellsSet f t x y z before after =
    (u v : ℕ) → u < t.cols → v < t.rows
    → slice_index_or after (v * t.cols + u) no_cell ≡ cond (covers x y z u v) (f (slice_index_or before (v * t.cols + u) no_cell)) (slice_index_or before (v * t.cols + u) no_cell)

-- the flag alone is set, or the segment alone
abbrev pub FlagSet : Tile → ℕ → ℕ → BlockSize → Bool → List Cell → List Cell → Type 0
FlagSet t x y z flag before after = CellsSet (λ c. record { skip = flag; segment = c.segment }) t x y z before after

abbrev pub SegmentSet : Tile → ℕ → ℕ → BlockSize → ℕ → List Cell → List Cell → Type 0
SegmentSet t x y z id before after = CellsSet (λ c. record { skip = c.skip; segment = id }) t x y z before after
