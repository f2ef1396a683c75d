-- The words at the start of a tile: value i of N is 32768 - floor(32768 × (i + 1) / N), counters and fillers are 0.
use Rattle.std.specs.Prelude.{ℕ, zero, suc, ◌-◌, ◌*◌, ◌/◌, List, [], ◌∷◌, ◌++◌, replicate}
use Rattle.cdf.specs.Words.{Words}

-- n values from value i on, and the counter
abbrev pub start_values : ℕ → ℕ → ℕ → List ℕ
start_values count i zero = 0 ∷ []
start_values count i (suc n) = (32768 - 32768 * suc i / count) ∷ start_values count (suc i) n

abbrev pub start_tables : ℕ → ℕ → List ℕ
start_tables zero count = []
start_tables (suc n) count = start_values count 0 (count - 1) ++ start_tables n count

abbrev pub start_component : List ℕ
start_component = start_tables 14 2 ++ (start_tables 3 4 ++ (start_tables 1 11 ++ replicate 5 0))

unfoldable pub start_words : Words
start_words =
    start_tables 3 2 ++ (start_tables 4 4 ++ (start_tables 1 8 ++ (start_tables 3 8 ++ (start_tables 4 8 ++ (start_tables 12 10 ++ (start_tables 6 16 ++ (start_tables 1 4 ++ (replicate 12 0 ++ (start_component ++ start_component)))))))))
