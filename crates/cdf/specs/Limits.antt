-- Lawful words, word by word: the most that each of them may be.
use Rattle.std.specs.Prelude.{◌≡◌, ℕ, zero, suc, ◌-◌, Bool, true, cond, ◌&&◌, List, [], ◌∷◌, ◌++◌, length, replicate, ◌==◌, nat_le, slice_index}
use Rattle.cdf.specs.Layout.{lawful, words_in_all}
use Rattle.cdf.specs.Words.{Words}

-- a limit that stands for the word before
abbrev pub as_before : ℕ
as_before = 65535

-- of a table's words: the first value, the later values, the counter
abbrev pub table_limits : ℕ → List ℕ
table_limits count = 32768 ∷ (replicate (count - 2) as_before ++ (32 ∷ []))

abbrev pub limits_of : ℕ → ℕ → List ℕ → List ℕ
limits_of zero count rest = rest
limits_of (suc n) count rest = table_limits count ++ limits_of n count rest

abbrev pub component_limits : List ℕ → List ℕ
component_limits rest = limits_of 14 2 (limits_of 3 4 (limits_of 1 11 (replicate 5 0 ++ rest)))

-- of all words, in the order of the layout; a filler's is 0
unfoldable pub limits : List ℕ
limits =
    limits_of 3 2 (limits_of 4 4 (limits_of 1 8 (limits_of 3 8 (limits_of 4 8 (limits_of 12 10 (limits_of 6 16 (limits_of 1 4 (replicate 12 0 ++ component_limits (component_limits [])))))))))

-- a word is at most its limit
abbrev pub keeps_to : ℕ → ℕ → ℕ → Bool
keeps_to limit before word = nat_le word (cond (limit == as_before) before limit)

abbrev pub word_before : Words → ℕ → ℕ
word_before w zero = 0
word_before w (suc k) = slice_index w k

abbrev pub fits_at : Words → ℕ → Bool
fits_at w k = keeps_to (slice_index limits k) (word_before w k) (slice_index w k)

-- a test at the n numbers from k on
abbrev pub all_from : (ℕ → Bool) → ℕ → ℕ → Bool
all_from f k zero = true
all_from f k (suc n) = f k && all_from f (suc k) n

-- words are lawful exactly where each of them fits
abbrev pub LawfulByLimits : Type 0
LawfulByLimits = (w : Words) → length w ≡ words_in_all → lawful w ≡ all_from (fits_at w) 0 words_in_all
