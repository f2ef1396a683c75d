-- The partition contexts set byte by byte, each logged while a trial is open.
use Rattle.std.specs.Prelude.{ℕ, List, [], ◌∷◌, slice_index, slice_set}
use Rattle.journal.specs.declared.Mark.{Mark}
use Rattle.journal.specs.declared.Spot.{Spot}
use Rattle.journal.specs.declared.Spot.TheVariants as spot
use Rattle.model.specs.Calls.{log_if}
use Rattle.model.specs.Runs.{Lane}
use Rattle.stage.specs.declared.state.bytes.Side.{Side}
use Rattle.stage.specs.declared.state.bytes.Side.TheVariants as side
use Rattle.stage.specs.Places.{at_each}
use Rattle.stage.specs.View.{lane}

-- how many bytes a side has
abbrev pub side_length : Side → ℕ
side_length side.Above = 512
side_length side.Left = 8

abbrev pub spot_of : Side → ℕ → ℕ → Spot
spot_of side.Above i b = spot.Above i b
spot_of side.Left i b = spot.Left i b

-- the bytes of a side with the lane that logs their changes
pub record LoggedBytes : Type 0 where
  pub bytes : List ℕ
  pub spots : Lane Spot

abbrev pub logged_bytes : List ℕ → List Spot → ℕ → LoggedBytes
logged_bytes bytes spots used = record { bytes = bytes; spots = lane spots used }

-- one byte set, and those at a list of places one after the other
abbrev pub set_byte : List Mark → Side → ℕ → ℕ → LoggedBytes → LoggedBytes
set_byte ms k b i m = record { bytes = slice_set m.bytes i b; spots = log_if ms m.spots (spot_of k i (slice_index m.bytes i) ∷ []) }

abbrev pub set_bytes : List Mark → Side → ℕ → List ℕ → LoggedBytes → LoggedBytes
set_bytes ms k b is m = at_each (set_byte ms k b) is m
