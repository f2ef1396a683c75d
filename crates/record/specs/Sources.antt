-- What a source answers, by its list of entries and its place in it, and the law that every source owes.
use Rattle.std.specs.Prelude.{ℕ, ◌+◌, ◌≤◌, cond, List, length, Ok, Err, Result, nat_le, nat_lt, slice_index_or}
use Rattle.av1.specs.declared.refusal.Refusal.{Refusal}
use Rattle.av1.specs.declared.refusal.Refusal.TheVariants as no
use Rattle.cdf.specs.declared.entry.Entry.{Entry}
use Rattle.cdf.specs.Entries.{entry_fits}
use Rattle.record.specs.declared.source.SourceFault.{SourceFault}
use Rattle.record.specs.declared.source.SourceFault.TheVariants as fault
use Rattle.record.specs.Sinks.{no_entry}

-- the refusal of a fault, and the place that it tells
abbrev pub refusal_of : SourceFault → Refusal
refusal_of (fault.NoNextEntry place) = no.NoNextEntry
refusal_of (fault.EntryUnfit place) = no.EntryUnfit

abbrev pub place_of : SourceFault → ℕ
place_of (fault.NoNextEntry place) = place
place_of (fault.EntryUnfit place) = place

-- the entry at place p of l, asked for by a table
abbrev pub next_answer : List Entry → ℕ → List ℕ → Result ℕ SourceFault
next_answer l p table =
    cond (nat_lt p (length l))
    (cond (entry_fits table (slice_index_or l p no_entry)) (Ok (slice_index_or l p no_entry).s) (Err (fault.EntryUnfit p)))
    (Err (fault.NoNextEntry p))

abbrev pub next_place : List Entry → ℕ → List ℕ → ℕ
next_place l p table = cond (nat_lt p (length l)) (cond (entry_fits table (slice_index_or l p no_entry)) (p + 1) p) p

-- back to place p
abbrev pub back_answer : ℕ → ℕ → Result (Unit {0}) Refusal
back_answer place p = cond (nat_le p place) (Ok tt) (Err no.NoSuchEntry)

abbrev pub back_place : ℕ → ℕ → ℕ
back_place place p = cond (nat_le p place) p place

-- the place lies in the list, or at its end
pub record SourceLaws {S : Type 0} (list : S → List Entry) (place : S → ℕ) : Type 0 where
  pub inside : (s : S) → place s ≤ length (list s)
