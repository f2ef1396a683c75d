-- Where the tables lie in the 430 words, and when words are lawful.
use Rattle.std.specs.Prelude.{◌≡◌, ℕ, zero, suc, ◌+◌, ◌-◌, Bool, true, false, cond, ◌&&◌, List, [], ◌∷◌, ◌++◌, map, length, sum, replicate, ◌==◌, nat_le, nat_lt, slice_index}
use Rattle.cdf.specs.Lists.{from}
use Rattle.cdf.specs.Words.{Words, Table, table, words_of, updated}

abbrev pub words_in_all : ℕ
words_in_all = 430

-- n tables of so many symbols, one behind the other
abbrev pub family : ℕ → ℕ → ℕ → List Table
family first zero count = []
family first (suc n) count = table first count ∷ family (first + count) n count

-- the tables of a vector's component from its base on: sign, class0_hp, hp, class0 and ten bits; class0_fp twice and fp; classes
abbrev pub small_component : ℕ → List Table
small_component base = family base 14 2 ++ family (base + 28) 3 4

abbrev pub large_component : ℕ → List Table
large_component base = family (base + 40) 1 11

-- the first words of the two components
abbrev pub row_base : ℕ
row_base = 318

abbrev pub col_base : ℕ
col_base = 374

-- tables of up to 4 symbols: skip_cdfs, partition_w8_cdf, joints_cdf, components
unfoldable pub small_tables : List Table
small_tables = family 0 3 2 ++ (family 6 4 4 ++ (family 302 1 4 ++ (small_component row_base ++ small_component col_base)))

-- larger ones: cfl_sign_cdf, spatial_segmentation_cdfs, partition_w128_cdf, partition_cdf, cfl_alpha_cdf, components
unfoldable pub large_tables : List Table
large_tables =
    family 22 1 8 ++ (family 30 3 8 ++ (family 54 4 8 ++ (family 86 12 10 ++ (family 206 6 16 ++ (large_component row_base ++ large_component col_base)))))

unfoldable pub tables : List Table
tables = small_tables ++ large_tables

-- the words that belong to no table: behind the joints, and behind the classes of each component
abbrev pub joint_fillers : List ℕ
joint_fillers = from 306 12

abbrev pub component_fillers : List ℕ
component_fillers = from (row_base + 51) 5 ++ from (col_base + 51) 5

unfoldable pub fillers : List ℕ
fillers = joint_fillers ++ component_fillers

abbrev pub descends : ℕ → List ℕ → Bool
descends top [] = false
descends top (c ∷ []) = nat_le c 32
descends top (v ∷ x ∷ xs) = nat_le v top && descends v (x ∷ xs)

abbrev pub all_descend : Words → List Table → Bool
all_descend w [] = true
all_descend w (t ∷ ts) = descends 32768 (words_of w t) && all_descend w ts

abbrev pub all_zero : Words → List ℕ → Bool
all_zero w [] = true
all_zero w (i ∷ is) = slice_index w i == 0 && all_zero w is

-- every table lawful, every filler word zero
unfoldable pub lawful : Words → Bool
lawful w = all_descend w tables && all_zero w fillers

pub record SoundWords (w : Words) : Type 0 where
  pub number : length w ≡ words_in_all
  pub fits : lawful w ≡ true

-- for each word the number of symbols of the table that begins there, and 0 where none begins
abbrev pub sizes_of : ℕ → ℕ → List ℕ → List ℕ
sizes_of zero count rest = rest
sizes_of (suc n) count rest = count ∷ (replicate (count - 1) 0 ++ sizes_of n count rest)

abbrev pub component_sizes : List ℕ → List ℕ
component_sizes rest = sizes_of 14 2 (sizes_of 3 4 (sizes_of 1 11 (replicate 5 0 ++ rest)))

unfoldable pub table_sizes : List ℕ
table_sizes =
    sizes_of 3 2 (sizes_of 4 4 (sizes_of 1 8 (sizes_of 3 8 (sizes_of 4 8 (sizes_of 12 10 (sizes_of 6 16 (sizes_of 1 4 (replicate 12 0 ++ component_sizes (component_sizes [])))))))))

-- the tables that sizes list word by word, from word i on, of those whose number of symbols is taken
abbrev pub listed : (ℕ → Bool) → ℕ → List ℕ → List Table
listed taken i [] = []
listed taken i (n ∷ ns) = cond (taken n) (table i n ∷ listed taken (suc i) ns) (listed taken (suc i) ns)

-- the sizes list each table and no other: 70 tables, which with 22 fillers take all words
pub record OneLayout : Type 0 where
  pub small : listed (λ n. nat_le 1 n && nat_le n 4) 0 table_sizes ≡ small_tables
  pub large : listed (λ n. nat_lt 4 n) 0 table_sizes ≡ large_tables
  pub number : length tables ≡ 70
  pub others : length fillers ≡ 22
  pub words : sum (map (λ t. t.count) tables) + length fillers ≡ words_in_all

-- the layout has this table
unfoldable pub in_layout : Table → Bool
in_layout t = nat_lt 0 t.count && slice_index table_sizes t.first == t.count

-- whichever table a symbol adapts, the words stay sound
abbrev pub WordsStaySound : Type 0
WordsStaySound = (w : Words) (t : Table) (s : ℕ) → in_layout t ≡ true → SoundWords w → SoundWords (updated w t s)
