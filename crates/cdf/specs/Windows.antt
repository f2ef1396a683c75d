-- Windows of words: what an undo record holds of the tables, and how it is put back.
use Rattle.std.specs.Prelude.{ℕ, ◌+◌, Bool, cond, ◌&&◌, ◌||◌, List, length, take, drop, ◌==◌, nat_le}
use Rattle.std.proofs.lemmas.List.Edits.{sets}
use Rattle.cdf.specs.Layout.{lawful, words_in_all, row_base, col_base}
use Rattle.cdf.specs.Words.{Words}

-- n words from one on
abbrev pub window : ℕ → Words → ℕ → List ℕ
window n w f = take n (drop f w)

-- a window lies in the words and would leave them lawful
abbrev pub taken_window : ℕ → List ℕ → Words → Bool
taken_window first us w = nat_le (first + length us) words_in_all && lawful (sets w first us)

-- a window put back, or else passed over
abbrev pub put_window : ℕ → List ℕ → Words → Words
put_window first us w = cond (taken_window first us w) (sets w first us) w

-- windows of 4 words begin among the tables of up to 4 symbols, those of 16 among the larger
abbrev pub small_place : ℕ → Bool
small_place f = nat_le f 18 || (f == 302 || ((nat_le row_base f && nat_le f (row_base + 36)) || (nat_le col_base f && nat_le f (col_base + 36))))

abbrev pub large_place : ℕ → Bool
large_place f = (nat_le 22 f && nat_le f 286) || (f == row_base + 40 || f == col_base + 40)
