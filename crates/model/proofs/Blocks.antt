-- The cells that a decision sets, unit by unit.
use Rattle.std.proofs.Common.{◌⊎◌, inl, inr, ◌≡◌, ℕ, zero, suc, ◌+◌, ◌-◌, ◌*◌, ◌<◌, ◌≤◌, min, Bool, true, false, cond, ◌&&◌, ◌||◌, T, eqb, ltb, leb, List, [], ◌∷◌, ◌++◌, map, length, get_or, set, sym, refl, ap, ◌∙◌, subst, mul-le-mul_right, add-mul, one-mul, arith, le→leb, eqb→eq, ltb→lt, lt→ltb, leb→le}
use native.Mathlib.Decide.{dec_lt, ℕ_discrete}
use lib.Dec.{eqb_refl}
use Rattle.std.proofs.lemmas.Bool.{cases_eq, cond-false, cond-true, eq-eqb, lt-ltb, ne_eqb}
use Rattle.std.proofs.lemmas.Grind.{get_or-set_at}
use Rattle.std.proofs.lemmas.List.{get_or-set_other}
use Rattle.std.proofs.Math.Bool.{or_assoc}
use Rattle.journal.specs.Spots.{length_below}
use Rattle.model.proofs.Staged.{spots_still}
use Rattle.av1.specs.declared.size.BlockSize.{BlockSize}
use Rattle.av1.specs.declared.tile.Cell.{Cell}
use Rattle.av1.specs.Sizes.{width_mi, height_mi}
use Rattle.av1.specs.Tiles.{no_cell}
use Rattle.cdf.specs.Lists.{from, Each}
use Rattle.cdf.proofs.Booleans.{and_first, and_second, and_both, true→T, same_test}
use Rattle.journal.specs.declared.Spot.{Spot}
use Rattle.journal.specs.declared.Spot.TheVariants as spot
use Rattle.model.specs.Decisions.{State, units, in_tile, put_spot, put_spots, block_cells, cells_of}
use Rattle.model.specs.Facts.{unit_at, covers, with_cells, SkipSet, SegmentSet}
use Rattle.model.proofs.Facts.{cells_inside}

abbrev holds : ℕ → List ℕ → Bool
holds k [] = false
holds k (i ∷ is) = eqb i k || holds k is

-- cells set at the listed places, each to a value of its own
module _ (h : ℕ → Cell) where
  abbrev set_at : List ℕ → List Spot
  set_at is = map (λ i. spot.Cell i (h i)) is

  only_cells : (is : List ℕ) (s : State) → put_spots s (set_at is) ≡ with_cells s (put_spots s (set_at is)).cells
  only_cells [] s = refl
  only_cells (i ∷ is) s = only_cells is (put_spot s (spot.Cell i (h i)))

  set_one : (s : State) (i k : ℕ) → i < units s → length s.cells ≡ units s
      → get_or (put_spot s (spot.Cell i (h i))).cells k no_cell ≡ cond (eqb i k) (h k) (get_or s.cells k no_cell)
  set_one s i k l long = ap (λ c. get_or c k no_cell) (cond-true (ltb i (units s)) _ _ (lt-ltb i (units s) l)) ∙ go (cases_eq i k)
    where
      go : (i ≡ k) ⊎ (i ≡ k → ⊥) → get_or (set s.cells i (h i)) k no_cell ≡ cond (eqb i k) (h k) (get_or s.cells k no_cell)
      go (inl e) = get_or-set_at s.cells i k (h i) no_cell (sym e) (omega (arith, long)) ∙ ap h e ∙ sym (cond-true (eqb i k) _ _ (eq-eqb i k e))
      go (inr n) = get_or-set_other s.cells i k (h i) no_cell (λ d. n (sym d)) ∙ sym (cond-false (eqb i k) _ _ (ne_eqb i k n))

  set_all : (is : List ℕ) (s : State) (k : ℕ) → Each (λ (i : ℕ). i < units s) is → length s.cells ≡ units s
      → get_or (put_spots s (set_at is)).cells k no_cell ≡ cond (holds k is) (h k) (get_or s.cells k no_cell)
  set_all [] s k e long = refl
  set_all (i ∷ is) s k e long =
      set_all is (put_spot s (spot.Cell i (h i))) k e.1 (length_below (units s) i (h i) s.cells ∙ long)
      ∙ ap (λ c. cond (holds k is) (h k) c) (set_one s i k e.0 long)
      ∙ both (eqb i k) (holds k is)
    where
      both : (a b : Bool) → cond b (h k) (cond a (h k) (get_or s.cells k no_cell)) ≡ cond (a || b) (h k) (get_or s.cells k no_cell)
      both true true = refl
      both true false = refl
      both false b = refl

-- the places of a block
holds_append : (k : ℕ) (is js : List ℕ) → holds k (is ++ js) ≡ (holds k is || holds k js)
holds_append k [] js = refl
holds_append k (i ∷ is) js = ap (λ b. eqb i k || b) (holds_append k is js) ∙ sym (or_assoc (eqb i k) (holds k is) (holds k js))

or_cases : (a b : Bool) (P : Type 0) → (T a → P) → (T b → P) → T (a || b) → P
or_cases true b P f g h = f tt
or_cases false b P f g h = g h

or_left : (a b : Bool) → T a → T (a || b)
or_left true b h = tt
or_left false b h = absurd h

or_right : (a b : Bool) → T b → T (a || b)
or_right true b h = tt
or_right false b h = h

holds_from : (k n i : ℕ) → T (holds k (from i n)) → (i ≤ k) × (k < i + n)
holds_from k zero i t = absurd t
holds_from k (suc n) i t =
    or_cases (eqb i k) (holds k (from (suc i) n)) ((i ≤ k) × (k < i + suc n))
    (λ e. let same : i ≡ k = eqb→eq i k e in (omega arith, omega arith))
    (λ r. let x = holds_from k n (suc i) r in (omega (arith, x.0), omega (arith, x.1)))
    t

from_holds : (k n i : ℕ) → i ≤ k → k < i + n → T (holds k (from i n))
from_holds k zero i a b = absurd (omega arith)
from_holds k (suc n) i a b = go (ℕ_discrete i k) (from_holds k n (suc i))
  where
    go : Dec (i ≡ k) → (suc i ≤ k → k < suc i + n → T (holds k (from (suc i) n))) → T (eqb i k || holds k (from (suc i) n))
    go (yes e) rec = or_left (eqb i k) _ (subst (λ j. T (eqb i j)) e (eqb_refl i))
    go (no e) rec = or_right (eqb i k) _ (rec (omega arith) (omega arith))

-- a unit (u, v) of a tile of so many columns, and a block whose rows have `wide` cells from column x on
module _ (columns wide x u v : ℕ) (inside : x + wide ≤ columns) (there : u < columns) where
  abbrev Across : Type 0
  Across = (x ≤ u) × (u < x + wide)

  next_row : (a b : ℕ) → a < b → a * columns + columns ≤ b * columns
  next_row a b l =
      let more : (a + 1) * columns ≤ b * columns = mul-le-mul_right columns (let z : a + 1 ≤ b = omega arith in z) in
      let parts : (a + 1) * columns ≡ a * columns + columns = simp (add-mul, one-mul) in
      omega arith

  same_row : (a : ℕ) → a * columns + x ≤ v * columns + u → v * columns + u < a * columns + x + wide → (a ≡ v) × Across
  same_row a low high = go (dec_lt a v) (dec_lt v a)
    where
      go : Dec (a < v) → Dec (v < a) → (a ≡ v) × Across
      go (yes l) d = absurd (let z : a * columns + columns ≤ v * columns = next_row a v l in let y : ⊥ = omega arith in y)
      go (no n) (yes l) = absurd (let z : v * columns + columns ≤ a * columns = next_row v a l in let y : ⊥ = omega arith in y)
      go (no n) (no m) =
          let same : a ≡ v = omega arith in
          let row : a * columns ≡ v * columns = ap (λ k. k * columns) same in
          (same, (omega arith, omega arith))

  turn : (y : ℕ) → y * columns + x + columns ≡ suc y * columns + x
  turn y =
      let step : y + 1 ≡ suc y = omega arith in
      let parts : (y + 1) * columns ≡ y * columns + columns = simp (add-mul, one-mul) in
      let row : (y + 1) * columns ≡ suc y * columns = ap (λ k. k * columns) step in
      omega arith

  block_holds : (n y : ℕ) → T (holds (v * columns + u) (block_cells columns wide (y * columns + x) n)) → Across × ((y ≤ v) × (v < y + n))
  block_holds zero y t = absurd t
  block_holds (suc n) y t =
      or_cases (holds (v * columns + u) (from (y * columns + x) wide)) (holds (v * columns + u) (block_cells columns wide (y * columns + x + columns) n)) (Across × ((y ≤ v) × (v < y + suc n)))
      (λ r. let h = holds_from (v * columns + u) wide (y * columns + x) r in
      let s = same_row y h.0 h.1 in
      (s.1, (omega (arith, s.0), omega (arith, s.0))))
      (λ r. let h = block_holds n (suc y) (subst (λ i. T (holds (v * columns + u) (block_cells columns wide i n))) (turn y) r) in
      (h.0, (omega (arith, h.1.0), omega (arith, h.1.1))))
      (subst T (holds_append (v * columns + u) (from (y * columns + x) wide) (block_cells columns wide (y * columns + x + columns) n)) t)

  holds_block : (n y : ℕ) → Across → y ≤ v → v < y + n → T (holds (v * columns + u) (block_cells columns wide (y * columns + x) n))
  holds_block zero y h a b = absurd (omega arith)
  holds_block (suc n) y h a b =
      subst T (sym (holds_append (v * columns + u) (from (y * columns + x) wide) (block_cells columns wide (y * columns + x + columns) n)))
      (go (ℕ_discrete y v) (λ c d. subst (λ i. T (holds (v * columns + u) (block_cells columns wide i n))) (sym (turn y)) (holds_block n (suc y) h c d)))
    where
      go : Dec (y ≡ v) → (suc y ≤ v → v < suc y + n → T (holds (v * columns + u) (block_cells columns wide (y * columns + x + columns) n)))
          → T (holds (v * columns + u) (from (y * columns + x) wide) || holds (v * columns + u) (block_cells columns wide (y * columns + x + columns) n))
      go (yes e) rec =
          let row : y * columns ≡ v * columns = ap (λ k. k * columns) e in
          or_left (holds (v * columns + u) (from (y * columns + x) wide)) _
          (from_holds (v * columns + u) wide (y * columns + x) (omega (arith, row, h.0)) (omega (arith, row, h.1)))
      go (no e) rec = or_right (holds (v * columns + u) (from (y * columns + x) wide)) _ (rec (omega arith) (omega arith))

cells_covered : (s : State) (x y : ℕ) (z : BlockSize) (u v : ℕ) → T (in_tile s x y z) → u < s.columns → v < s.rows → holds (v * s.columns + u) (cells_of s x y z) ≡ covers x y z u v
unfolding cells_of
cells_covered s x y z u v placed a b = same_test (holds (v * s.columns + u) (block_cells s.columns wide (y * s.columns + x) high)) (covers x y z u v) to back
  where
    x_in : x < s.columns
    x_in = ltb→lt x s.columns (and_first (ltb x s.columns) _ placed)

    wide : ℕ
    wide = min (width_mi z) (s.columns - x)

    high : ℕ
    high = min (height_mi z) (s.rows - y)

    fits : x + wide ≤ s.columns
    fits = omega (arith, x_in)

    to : T (holds (v * s.columns + u) (block_cells s.columns wide (y * s.columns + x) high)) → T (covers x y z u v)
    to t =
        let h = block_holds s.columns wide x u v fits a high y t in
        let l : x ≤ u = h.0.0 in
        let r : u < x + width_mi z = omega (arith, h.0.1) in
        let m : y ≤ v = h.1.0 in
        let n : v < y + height_mi z = omega (arith, h.1.1) in
        and_both (leb x u && ltb u (x + width_mi z)) _ (and_both (leb x u) _ (le→leb x u l) (lt→ltb u (x + width_mi z) r)) (and_both (leb y v) _ (le→leb y v m) (lt→ltb v (y + height_mi z) n))

    back : T (covers x y z u v) → T (holds (v * s.columns + u) (block_cells s.columns wide (y * s.columns + x) high))
    back t =
        let across : T (leb x u && ltb u (x + width_mi z)) = and_first (leb x u && ltb u (x + width_mi z)) _ t in
        let rows : T (leb y v && ltb v (y + height_mi z)) = and_second (leb x u && ltb u (x + width_mi z)) _ t in
        let l : x ≤ u = leb→le x u (and_first (leb x u) _ across) in
        let r : u < x + width_mi z = ltb→lt u (x + width_mi z) (and_second (leb x u) _ across) in
        let m : y ≤ v = leb→le y v (and_first (leb y v) _ rows) in
        let n : v < y + height_mi z = ltb→lt v (y + height_mi z) (and_second (leb y v) _ rows) in
        holds_block s.columns wide x u v fits a high y (l, omega arith) m (omega arith)

spot_columns : (s : State) (p : Spot) → (put_spot s p).columns ≡ s.columns
spot_columns s (spot.Cell i c) = refl
spot_columns s _ = refl

-- a decision that sets each cell of its block to a value that hangs on the cell alone
block_set : (h : ℕ → Cell) (s : State) (x y : ℕ) (z : BlockSize) → length s.cells ≡ units s → in_tile s x y z ≡ true
    → let next : State = put_spots s (map (λ i. spot.Cell i (h i)) (cells_of s x y z)) in
    (next ≡ with_cells s next.cells)
    × ((u v : ℕ) → u < s.columns → v < s.rows → unit_at next u v ≡ cond (covers x y z u v) (h (v * s.columns + u)) (unit_at s u v))
block_set h s x y z mapped placed = (only_cells h (cells_of s x y z) s, one)
  where
    one : (u v : ℕ) → u < s.columns → v < s.rows
        → unit_at (put_spots s (map (λ i. spot.Cell i (h i)) (cells_of s x y z))) u v ≡ cond (covers x y z u v) (h (v * s.columns + u)) (unit_at s u v)
    one u v a b =
        ap (λ c. get_or (put_spots s (map (λ i. spot.Cell i (h i)) (cells_of s x y z))).cells (v * c + u) no_cell) (spots_still (λ (z : State). z.columns) spot_columns s (map (λ i. spot.Cell i (h i)) (cells_of s x y z)))
        ∙ set_all h (cells_of s x y z) s (v * s.columns + u) (cells_inside s x y z (true→T (in_tile s x y z) placed)) mapped
        ∙ ap (λ b. cond b (h (v * s.columns + u)) (unit_at s u v)) (cells_covered s x y z u v (true→T (in_tile s x y z) placed) a b)

pub skip_set : SkipSet
skip_set s x y z flag mapped placed = block_set (λ i. record { skip = flag; segment = (get_or s.cells i no_cell).segment }) s x y z mapped placed

pub segment_set : SegmentSet
segment_set s x y z skip id mapped placed = block_set (λ i. record { skip = (get_or s.cells i no_cell).skip; segment = id }) s x y z mapped placed
