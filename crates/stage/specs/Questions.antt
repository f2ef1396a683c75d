-- The questions on the sink's room and the lanes, over plain values.
use Rattle.std.specs.Prelude.{◌≡◌, ℕ, ◌+◌, ◌-◌, ◌*◌, ◌<◌, ◌≤◌, Bool, true, cond, not, ◌&&◌, ◌||◌, length, Ok, Err, Result, ◌==◌, nat_le, nat_lt, slice_index_or}
use Rattle.av1.specs.declared.refusal.Refusal.{Refusal}
use Rattle.av1.specs.declared.refusal.Refusal.TheVariants as no
use Rattle.av1.specs.declared.tile.Block.{Block}
use Rattle.journal.specs.declared.Counts.{Counts}
use Rattle.journal.specs.declared.Mark.{Mark}
use Rattle.model.specs.Decisions.{stage}
use Rattle.model.specs.Runs.{Lent}
use Rattle.stage.specs.declared.state.Journal.{Journal}
use Rattle.stage.specs.View.{no_mark, open_trials}

-- how many undo records a call makes in each lane
abbrev pub need : ℕ → ℕ → ℕ → Counts
need a b c = record { small = a; large = b; spots = c }

-- while a trial is open, each lane has room for them behind the records in use
abbrev pub lanes_fit : Journal → Lent stage → Counts → Bool
lanes_fit j l n =
    cond (nat_lt 0 (open_trials j))
    (nat_le (j.used.small + n.small) (length l.small) && (nat_le (j.used.large + n.large) (length l.large) && nat_le (j.used.spots + n.spots) (length l.spots)))
    true

pub record LanesFit (j : Journal) (l : Lent stage) (n : Counts) : Type 0 where
  pub small : 0 < open_trials j → j.used.small + n.small ≤ length l.small
  pub large : 0 < open_trials j → j.used.large + n.large ≤ length l.large
  pub spots : 0 < open_trials j → j.used.spots + n.spots ≤ length l.spots

-- the sink has room for the entries, and the lanes for the records
abbrev pub record_asked : Journal → Lent stage → ℕ → ℕ → Counts → Result (Unit {0}) Refusal
record_asked j l room entries n = cond (nat_le entries room) (cond (lanes_fit j l n) (Ok tt) (Err no.LogRoom)) (Err no.Room)

-- how many cells of a block lie in the tile
abbrev pub area : Block → ℕ
area b = b.height * b.width

-- the trial of this depth is the innermost one, where so many are open
abbrev pub innermost_asked : ℕ → ℕ → Result (Unit {0}) Refusal
innermost_asked trials depth = cond (trials == 0 || not (depth == trials)) (Err no.NotInnermost) (Ok tt)

-- the mark of the innermost trial
abbrev pub innermost_mark : Journal → Mark
innermost_mark j = slice_index_or j.marks.items (open_trials j - 1) no_mark

-- a trial of this depth can be taken back, over a map of so many cells and a sink of so many entries: the mark that it goes back to
abbrev pub back_asked : ℕ → ℕ → Journal → Lent stage → ℕ → ℕ → Result Mark Refusal
back_asked units memory j l entries depth =
    cond (nat_le units memory)
    (cond (nat_le j.used.small (length l.small) && (nat_le j.used.large (length l.large) && nat_le j.used.spots (length l.spots)))
    (cond (open_trials j == 0 || not (depth == open_trials j)) (Err no.NotInnermost)
    (cond (nat_le (innermost_mark j).entries entries) (Ok (innermost_mark j)) (Err no.EntriesGone)))
    (Err no.LogRoom))
    (Err no.MapMemory)

-- what taking back leans on once no question was answered by no
pub record CanGoBack (units memory : ℕ) (j : Journal) (l : Lent stage) (entries : ℕ) (m : Mark) : Type 0 where
  pub mapped : units ≤ memory
  pub small : j.used.small ≤ length l.small
  pub large : j.used.large ≤ length l.large
  pub spots : j.used.spots ≤ length l.spots
  pub tried : 0 < open_trials j
  pub mark : m ≡ innermost_mark j
  pub enough : m.entries ≤ entries
