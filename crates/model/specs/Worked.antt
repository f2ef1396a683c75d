-- The start of a tile, and worked examples on the definitions.
use Rattle.std.specs.Prelude.{◌≡◌, ℕ, ◌+◌, ◌*◌, List, [], ◌∷◌, map, take, replicate, pos, negsuc}
use Rattle.cdf.specs.declared.entry.Entry.{Entry}
use Rattle.model.specs.declared.Question.TheVariants as of
use Rattle.std.proofs.Math.Option.{none}
use Rattle.av1.specs.declared.size.BlockSize.TheVariants.{BLOCK_64X64}
use Rattle.av1.specs.declared.mv.MvSubpelPrecision.TheVariants as at
use Rattle.av1.specs.Segments.{interleaved}
use Rattle.av1.specs.Tiles.{no_cell}
use Rattle.cdf.specs.Start.{start_words}
use Rattle.cdf.specs.Words.{adapted}
use Rattle.model.specs.Coders.{table_of}
use Rattle.model.specs.Tree.{Syntax, Written, done, never, coded, and_then, one, written}
use Rattle.model.specs.Alphas.{alphas_tree, alphas_path}
use Rattle.model.specs.Vector.{path_if}
use Rattle.model.specs.Runs.{sent}
use Rattle.model.specs.Decisions.{State, Sound, stage, start_asked, SPLIT}

-- the first word of each symbol's table, with the symbol
abbrev pub coders : {D : Type 0} → Syntax D → List ℕ → List (ℕ × ℕ)
coders (done d) p = []
coders (never n) p = []
coders (coded k f) [] = []
coders (coded k f) (s ∷ p) = ((table_of k).first, s) ∷ coders (f s) p

unfoldable pub start : ℕ → ℕ → ℕ → State
start columns rows last =
    record { columns = columns; rows = rows; last = last; words = start_words; above = replicate 512 0; left = replicate 8 0; cells = replicate (columns * rows) no_cell }

abbrev pub entry : ℕ → ℕ → ℕ → ℕ → Entry
entry s n fl fh = record { s = s; n = n; fl = fl; fh = fh }

-- two skip flags of 1, both by table number 0; alphas that share a table
abbrev pub two_skips : Written
two_skips = written start_words (and_then (one 0 2) (λ a. one 0 2)) (1 ∷ 1 ∷ [])

abbrev pub alphas_alike : Written
alphas_alike = written start_words alphas_tree (alphas_path (pos 5, pos 5))

-- the examples worked by hand
abbrev pub Worked : Type 0
Worked =
    (adapted 2 (16384 ∷ 0 ∷ []) 0 ≡ 15360 ∷ 1 ∷ [])
    × (adapted 2 (16384 ∷ 31 ∷ []) 0 ≡ 15872 ∷ 32 ∷ [])
    × (adapted 2 (16384 ∷ 32 ∷ []) 0 ≡ 16128 ∷ 32 ∷ [])
    × (adapted 4 (24576 ∷ 16384 ∷ 8192 ∷ 0 ∷ []) 2 ≡ 24832 ∷ 16896 ∷ 7936 ∷ 1 ∷ [])
    × (map (λ id. interleaved id 3 8) (0 ∷ 1 ∷ 2 ∷ 3 ∷ 4 ∷ 5 ∷ 6 ∷ 7 ∷ []) ≡ 6 ∷ 4 ∷ 2 ∷ 0 ∷ 1 ∷ 3 ∷ 5 ∷ 7 ∷ [])
    × (coders (alphas_tree) (alphas_path (pos 16, negsuc 15)) ≡ (22, 6) ∷ (206 + 16 * 4, 15) ∷ (206 + 16 * 2, 15) ∷ [])
    × (path_if at.MV_SUBPEL_HIGH_PRECISION (pos 16) ≡ 0 ∷ 0 ∷ 1 ∷ 3 ∷ 1 ∷ [])
    × (path_if at.MV_SUBPEL_HIGH_PRECISION (negsuc 16383) ≡ 1 ∷ 10 ∷ 1 ∷ 1 ∷ 1 ∷ 1 ∷ 1 ∷ 1 ∷ 1 ∷ 1 ∷ 1 ∷ 1 ∷ 3 ∷ 1 ∷ [])
    × ((sent stage (start 16 6 0) (of.Partition 0 0 BLOCK_64X64) SPLIT).entries ≡ entry 1 2 19662 0 ∷ [])
    × (two_skips.entries ≡ entry 1 2 16384 0 ∷ entry 1 2 17408 0 ∷ [])
    × (take 2 two_skips.words ≡ 18368 ∷ 2 ∷ [])
    × (alphas_alike.entries ≡ entry 7 8 4096 0 ∷ entry 4 16 24576 22528 ∷ entry 4 16 24832 21824 ∷ [])

-- a start that no question refuses is sound
abbrev pub StartsSound : Type 0
StartsSound = (columns rows last memory : ℕ) → start_asked columns rows last memory ≡ none → Sound (start columns rows last)
