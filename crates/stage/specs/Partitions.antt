-- The context of a partition from the bytes above and left, and what coding it takes.
use Rattle.std.specs.Prelude.{ℕ, ◌+◌, ◌*◌, ◌/◌, ◌%◌, Bool, true, false, cond, List, nat_le, slice_index}
use Rattle.model.specs.Decisions.{bit}

abbrev pub context_at : List ℕ → List ℕ → ℕ → ℕ → ℕ → ℕ
context_at above left x y j = 2 * bit j (slice_index left ((y % 16) / 2)) + bit j (slice_index above (x / 2))

-- by rows and columns present: a corner has no entry, and only the whole table adapts
abbrev pub entries_at : Bool → Bool → ℕ
entries_at true true = 1
entries_at false true = 1
entries_at true false = 1
entries_at false false = 0

abbrev pub small_at : Bool → Bool → ℕ → ℕ
small_at true true n = cond (nat_le n 4) 1 0
small_at false true n = 0
small_at true false n = 0
small_at false false n = 0

abbrev pub large_at : Bool → Bool → ℕ → ℕ
large_at true true n = cond (nat_le n 4) 0 1
large_at false true n = 0
large_at true false n = 0
large_at false false n = 0
