-- Facts that code leans on, and relations in the standard's words.
use Rattle.std.proofs.Common.{◌≡◌, ℕ, zero, suc, ◌+◌, ◌-◌, ◌*◌, ◌/◌, ◌%◌, ◌^◌, ◌<◌, ◌≤◌, min, Bool, true, false, cond, ◌&&◌, T, eqb, ltb, leb, List, [], ◌∷◌, map, length, sym, refl, ap, ◌∙◌, subst, mul_comm, mul-le-mul_left, mul-suc, arith, eqb→eq, ltb→lt}
use Rattle.std.proofs.lemmas.Bool.{and_parts, eqb-true, leb-true}
use Rattle.std.proofs.lemmas.List.{length-map}
use Rattle.cdf.proofs.Ranges.{all_below, true_below}
use Rattle.cdf.specs.declared.entry.Entry.{Entry}
use Rattle.av1.specs.declared.size.BlockSize.{BlockSize}
use Rattle.av1.specs.declared.size.BlockSize.TheVariants.{BLOCK_4X4, BLOCK_8X8, BLOCK_16X16, BLOCK_32X32, BLOCK_64X64}
use Rattle.journal.specs.declared.Spot.TheVariants as spot
use Rattle.model.specs.declared.Question.TheVariants as of
use Rattle.av1.specs.declared.refusal.Refusal.TheVariants as no
use Rattle.av1.specs.Sides.{side}
use Rattle.av1.specs.Sizes.{no_side_above, above_byte, fits_in, height, height_mi, left_byte, splits, width, width_mi}
use Rattle.cdf.proofs.Booleans.{and_first, and_second}
use Rattle.cdf.specs.Layout.{SoundWords, fillers, large_tables, lawful, small_tables, tables}
use Rattle.cdf.specs.Lists.{Each, from}
use Rattle.cdf.specs.Start.{start_words}
use Rattle.cdf.specs.Words.{Words}
use Rattle.model.proofs.Reading.{written_symbols}
use Rattle.model.proofs.Staged.{after_sound, below_tables, spots_sound, stage_laws, words_sound}
use Rattle.model.proofs.Standing.{or_else_first, or_else_second, unless_true}
use Rattle.model.proofs.Trails.{each_append}
use Rattle.model.proofs.TreeTables.{trees_in_layout}
use Rattle.model.specs.Coders.{after, fits, symbols, table_of}
use Rattle.model.specs.Decisions.{above_length, above_place, left_length, left_place, longest, Decision, State, TablesIn, bit, block_cells, brings_map, cells_of, decided, in_tile, path, prediction, segment_number, segment_spot, skip_spot, spots, stage, tree, units, with_words}
use Rattle.model.specs.Facts.{ContextBits, Counted, Faults, Inside, ReadsSound, ShortRun, SpotsInside}
use Rattle.model.specs.Runs.{map_asked_if, sent, unless}
use Rattle.model.specs.Tree.{Answer, Syntax, coded, done, faulty, never, read, read_as}
use Rattle.model.specs.Worked.{start}

-- spots lie inside
each_map : {A B : Type 0} (P : A → Type 0) (Q : B → Type 0) (f : A → B) → ((a : A) → P a → Q (f a)) → (xs : List A) → Each P xs → Each Q (map f xs)
each_map P Q f h [] e = tt
each_map P Q f h (x ∷ xs) e = (h x e.0, each_map P Q f h xs e.1)

from_below : (top n i : ℕ) → i + n ≤ top → Each (λ (k : ℕ). k < top) (from i n)
from_below top zero i h = tt
from_below top (suc n) i h = (omega arith, from_below top n (suc i) (omega arith))

block_inside : (columns rows wide x n y : ℕ) → x + wide ≤ columns → y + n ≤ rows → Each (λ (k : ℕ). k < columns * rows) (block_cells columns wide (y * columns + x) n)
block_inside columns rows wide x zero y h k = tt
block_inside columns rows wide x (suc n) y h k =
    each_append (λ (i : ℕ). i < columns * rows) (from (y * columns + x) wide) (block_cells columns wide (y * columns + x + columns) n)
    (from_below (columns * rows) wide (y * columns + x) row)
    (subst (λ (i : ℕ). Each (λ (k : ℕ). k < columns * rows) (block_cells columns wide i n)) next (block_inside columns rows wide x n (suc y) h (omega arith)))
  where
    high : columns * suc y ≤ columns * rows
    high = mul-le-mul_left columns (let z : suc y ≤ rows = omega arith in z)

    turn : columns * suc y ≡ y * columns + columns
    turn = let a : columns * suc y ≡ columns * y + columns = mul-suc columns y in let b : columns * y ≡ y * columns = mul_comm columns y in omega arith

    row : y * columns + x + wide ≤ columns * rows
    row = omega (arith, high, turn)

    next : suc y * columns + x ≡ y * columns + x + columns
    next = let a : suc y * columns ≡ columns * suc y = mul_comm (suc y) columns in omega (arith, turn)

pub cells_inside : (s : State) (x y : ℕ) (z : BlockSize) → T (in_tile s x y z) → Each (λ (k : ℕ). k < units s) (cells_of s x y z)
unfolding cells_of
cells_inside s x y z h =
    let a : x < s.columns = ltb→lt x s.columns (and_first (ltb x s.columns) _ h) in
    let b : y < s.rows = ltb→lt y s.rows (and_first (ltb y s.rows) _ (and_second (ltb x s.columns) _ h)) in
    block_inside s.columns s.rows (min (width_mi z) (s.columns - x)) x (min (height_mi z) (s.rows - y)) y (omega arith) (omega arith)

abbrev pub Bytes : ℕ → ℕ → BlockSize → Type 0
Bytes x y z = (above_place x + width z / 8 ≤ 512) × ((y % 16) / 2 + height z / 8 ≤ 8)

pub bytes_inside : (x y : ℕ) (z : BlockSize) → x < 1024 → T (splits 64 z) → x % width_mi z ≡ 0 → y % height_mi z ≡ 0 → Bytes x y z
bytes_inside x y BLOCK_8X8 l h a b = (omega arith, omega arith)
bytes_inside x y BLOCK_16X16 l h a b = (omega arith, omega arith)
bytes_inside x y BLOCK_32X32 l h a b = (omega arith, omega arith)
bytes_inside x y BLOCK_64X64 l h a b = (omega arith, omega arith)
bytes_inside x y _ l h a b = absurd h

pub side_most : (n : ℕ) → side n ≡ true → n ≤ 1024
side_most n h = leb-true n 1024 (and_parts (leb 2 n) _ (and_parts (eqb (n % 2) 0) _ h).1).1

pub spots_inside : SpotsInside
spots_inside s (of.Partition x y z) d sound ok = tt
spots_inside s (of.Skip x y z) d sound ok =
    each_map (λ (k : ℕ). k < units s) (Inside s) (skip_spot s d) (λ k h. h) (cells_of s x y z)
    (cells_inside s x y z (unless_true (in_tile s x y z) no.Position (or_else_second (unless (no_side_above (longest s) z) no.BlockSize) _ ok)))
spots_inside s (of.Segment x y z skip) d sound ok =
    each_map (λ (k : ℕ). k < units s) (Inside s) (segment_spot s d) (λ k h. h) (cells_of s x y z)
    (cells_inside s x y z (unless_true (in_tile s x y z) no.Position (or_else_second (unless (no_side_above (longest s) z) no.BlockSize) _ ok)))
spots_inside s of.Alphas d sound ok = tt
spots_inside s (of.Vector p) d sound ok = tt
spots_inside s (of.ContextUpdate x y z sub) d sound ok =
    let h : T (in_tile s x y z) = unless_true (in_tile s x y z) no.Position (or_else_second (unless (splits (longest s) z && fits_in sub z) no.BlockSize) _ ok) in
    let k : T (splits (longest s) z) = and_first (splits (longest s) z) (fits_in sub z) (unless_true (splits (longest s) z && fits_in sub z) no.BlockSize (or_else_first _ _ ok)) in
    let a : x < s.columns = ltb→lt x s.columns (and_first (ltb x s.columns) _ h) in
    let m : s.columns ≤ 1024 = side_most s.columns sound.wide in
    let r : T (eqb (x % width_mi z) 0 && eqb (y % height_mi z) 0) = and_second (ltb y s.rows) _ (and_second (ltb x s.columns) _ h) in
    let b : Bytes x y z = bytes_inside x y z (omega arith) k (eqb→eq (x % width_mi z) 0 (and_first (eqb (x % width_mi z) 0) _ r)) (eqb→eq (y % height_mi z) 0 (and_second (eqb (x % width_mi z) 0) _ r)) in
    each_append (Inside s) (map (λ i. spot.Above i (above_byte sub)) (from (above_place x) (width z / 8))) (map (λ i. spot.Left i (left_byte sub)) (from (left_place s y) (height z / 8)))
    (each_map (λ (k : ℕ). k < above_length s) (Inside s) (λ i. spot.Above i (above_byte sub)) (λ k h. h) (from (above_place x) (width z / 8)) (from_below (above_length s) (width z / 8) (above_place x) b.0))
    (each_map (λ (k : ℕ). k < left_length s) (Inside s) (λ i. spot.Left i (left_byte sub)) (λ k h. h) (from (left_place s y) (height z / 8)) (from_below (left_length s) (height z / 8) (left_place s y) b.1))
spots_inside s of.RowStart d sound ok =
    each_map (λ (k : ℕ). k < 8) (Inside s) (λ i. spot.Left i 0) (λ k h. h) (from 0 8) (from_below 8 8 0 (omega arith))

-- entries and symbols
pub counted : Counted
counted s r q d sound ok =
    sym (length-map (sent stage s q (decided s q d)).entries (λ (x : Entry). x.s))
    ∙ ap length (written_symbols (Decision q) stage s.words (tree s q) (path s q (decided s q d)) (decided s q d) (stage_laws.leads s r q d sound ok))

-- reading keeps the words sound
abbrev Kept : {D : Type 0} → Answer D → Type 0
Kept (read_as d w rest place) = SoundWords w
Kept (faulty f) = Unit {0}

read_keeps : (D : Type 0) (R : D → Type 0) (w : Words) (t : Syntax D) (began last place : ℕ) (es : List Entry) → TablesIn R t → SoundWords w → Kept (read w t began last place es)
read_keeps D R w (done d) began last place es h sound = sound
read_keeps D R w (never n) began last place es h sound = tt
read_keeps D R w (coded k f) began last place [] h sound = tt
read_keeps D R w (coded k f) began last place (e ∷ es) h sound =
    go (fits w k e) (λ t. ltb→lt e.s (symbols k) (and_first (ltb e.s (symbols k)) _ t))
    (λ l. read_keeps D R (after w k e.s) (f e.s) began (table_of k).first (suc place) es (below_tables R k e.s f h l) (after_sound R w k e.s f h sound))
  where
    go : (b : Bool) → (T b → e.s < symbols k)
        → (e.s < symbols k → Kept (read (after w k e.s) (f e.s) began (table_of k).first (suc place) es))
        → Kept (elim b [ true ↦ read (after w k e.s) (f e.s) began (table_of k).first (suc place) es | false ↦ faulty (record { why = no.EntryUnfit; entry = place - began; table = (table_of k).first; place = place }) ])
    go true l rec = rec (l tt)
    go false l rec = tt

pub reads_sound : ReadsSound
reads_sound memory s q es rest place after d w sound ok e =
    spots_sound (with_words s w) (spots (with_words s w) q d)
    (words_sound s w sound
    (subst Kept e (read_keeps (Decision q) (λ d. Unit {0}) s.words (tree s q) place 0 place es (trees_in_layout s q (or_else_second (map_asked_if stage (brings_map q) memory s) _ ok)) sound.tables)))

-- context bits
abbrev bits_right : BlockSize → ℕ → Bool
bits_right z j =
    eqb (bit j (above_byte z)) (cond (ltb (width z) (8 * 2 ^ j)) 1 0) && eqb (bit j (left_byte z)) (cond (ltb (height z) (8 * 2 ^ j)) 1 0)

bits_test : (z : BlockSize) → T (all_below 4 (bits_right z))
bits_test BLOCK_4X4 = tt
bits_test _ = tt

pub context_bits : ContextBits
context_bits z j h =
    let both : (eqb (bit j (above_byte z)) (cond (ltb (width z) (8 * 2 ^ j)) 1 0) ≡ true) × (eqb (bit j (left_byte z)) (cond (ltb (height z) (8 * 2 ^ j)) 1 0) ≡ true) =
    and_parts _ _ (true_below 4 (bits_right z) (bits_test z) j h) in
    (eqb-true _ _ both.0, eqb-true _ _ both.1)

pub faults : Faults
unfolding start start_words prediction segment_number
faults = (refl, refl, refl)

pub short_runs : ShortRun
unfolding start start_words prediction segment_number cells_of lawful tables small_tables large_tables fillers
short_runs = (refl, refl, refl)
