-- Tables of cumulative values in a list of words, the entry of a symbol, and how a symbol adapts its table.
--
-- A table of N symbols has N words: N - 1 values, which do not rise, and then a counter.
use Rattle.std.specs.Prelude.{ℕ, zero, suc, ◌+◌, ◌-◌, ◌/◌, ◌^◌, ◌≤◌, min, Bool, cond, List, [], ◌∷◌, take, drop, ◌==◌, nat_lt, slice_index}
use Rattle.std.proofs.lemmas.List.Edits.{sets}
use Rattle.cdf.specs.declared.entry.Entry.{Entry}

abbrev pub Words : Type 0
Words = List ℕ

-- a table by its first word and its number of symbols
pub record Table : Type 0 where
  pub first : ℕ
  pub count : ℕ

abbrev pub table : ℕ → ℕ → Table
table f n = record { first = f; count = n }

abbrev pub words_of : Words → Table → List ℕ
words_of w t = take t.count (drop t.first w)

-- the two values around a symbol: 32768 before the first, 0 behind the last
abbrev pub fl_at : List ℕ → ℕ → ℕ
fl_at vs zero = 32768
fl_at vs (suc s) = slice_index vs s

abbrev pub fh_at : ℕ → List ℕ → ℕ → ℕ
fh_at count vs s = cond (suc s == count) 0 (slice_index vs s)

abbrev pub entry_at : ℕ → List ℕ → ℕ → Entry
entry_at count vs s = record { s = s; n = count; fl = fl_at vs s; fh = fh_at count vs s }

-- the width of a symbol, 0 of one that the table has not, and the sum of the listed symbols' widths
abbrev pub width_of : ℕ → List ℕ → ℕ → ℕ
width_of count vs s = cond (nat_lt s count) (fl_at vs s - fh_at count vs s) 0

abbrev pub widths : ℕ → List ℕ → List ℕ → ℕ
widths count vs [] = 0
widths count vs (s ∷ ss) = width_of count vs s + widths count vs ss

-- a value after a symbol: one before it gains, the others lose
abbrev pub moved : ℕ → Bool → ℕ → ℕ
moved rate before v = cond before (v + (32768 - v) / 2 ^ rate) (v - v / 2 ^ rate)

abbrev pub counted : ℕ → ℕ
counted c = cond (nat_lt c 32) (suc c) c

-- the words from place i on after symbol s, the counter last
abbrev pub moved_from : ℕ → ℕ → ℕ → List ℕ → List ℕ
moved_from rate s i [] = []
moved_from rate s i (c ∷ []) = counted c ∷ []
moved_from rate s i (v ∷ x ∷ xs) = moved rate (nat_lt i s) v ∷ moved_from rate s (suc i) (x ∷ xs)

abbrev pub rate : ℕ → ℕ → ℕ
rate count counter = 3 + min (count / 2) 2 + counter / 16

-- a table's words after symbol s
abbrev pub adapted : ℕ → List ℕ → ℕ → List ℕ
adapted count vs s = moved_from (rate count (slice_index vs (count - 1))) s 0 vs

-- all words after a symbol of one table
abbrev pub updated : Words → Table → ℕ → Words
updated w t s = sets w t.first (adapted t.count (words_of w t) s)

-- lawful: values that do not rise, at most `top`, and then a counter of at most 32
abbrev pub Descends : ℕ → List ℕ → Type 0
Descends top [] = ⊥
Descends top (c ∷ []) = c ≤ 32
Descends top (v ∷ x ∷ xs) = (v ≤ top) × Descends v (x ∷ xs)

abbrev pub LawfulTable : List ℕ → Type 0
LawfulTable vs = Descends 32768 vs

-- a symbol leaves a lawful table lawful, whatever its number of symbols
abbrev pub TableStaysLawful : Type 0
TableStaysLawful = (count : ℕ) (vs : List ℕ) (s : ℕ) → LawfulTable vs → LawfulTable (adapted count vs s)
