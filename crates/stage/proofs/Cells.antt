-- The cells of a block, changed row by row, and what that is in the model.
use Rattle.stage.specs.Lanes.{OnlySpots}
use Rattle.stage.proofs.Symbols.{same_marks, same_trials, none_open}
use Rattle.stage.specs.View.{open_trials}
use Rattle.std.proofs.Common.{◌≡◌, ℕ, zero, suc, ◌+◌, ◌-◌, ◌*◌, ◌<◌, ◌≤◌, cond, T, ltb, List, [], ◌∷◌, ◌++◌, map, length, get_or, take, drop, set, sym, refl, ap, ◌∙◌, subst, ap₂, add-mul, one-mul, arith, lt→ltb}
use borrow.Rule.Slice.PartMut.{mid_of, post_of, put_mid}
use Rattle.std.proofs.lemmas.List.{get_or-set_other, length-take, take_at, drop_at}
use Rattle.av1.specs.declared.size.BlockSize.{BlockSize}
use Rattle.av1.specs.declared.tile.Block.{Block}
use Rattle.av1.specs.declared.tile.Cell.{Cell}
use Rattle.av1.specs.Tiles.{no_cell, block_at}
use Rattle.cdf.specs.declared.entry.Entry.{Entry}
use Rattle.cdf.specs.Lists.{from, Each, Rising}
use Rattle.cdf.proofs.Booleans.{T→true}
use Rattle.journal.specs.declared.Mark.{Mark}
use Rattle.journal.specs.declared.Spot.{Spot}
use Rattle.journal.specs.declared.Spot.TheVariants as spot
use Rattle.model.specs.Calls.{log_if, spot_step, spot_steps}
use Rattle.journal.specs.Spots.{put_below}
use Rattle.model.specs.Decisions.{State, stage, units, in_tile, block_cells, cells_of}
use Rattle.model.specs.Facts.{with_cells}
use Rattle.model.specs.Runs.{World, Lane, Lent}
use Rattle.model.proofs.Facts.{cells_inside}
use Rattle.stage.specs.declared.state.Journal.{Journal}
use Rattle.stage.specs.declared.state.cells.Change.{Change}
use Rattle.stage.specs.Cells.{LoggedCells, logged_cells, changed, change_one, change_each}
use Rattle.stage.specs.View.{lane, marks_of, world_at}
use Rattle.stage.proofs.Places.{each_append}

-- one row of a block, and the rest
pub block_turn : (ms ns : List Mark) (k : Change) (columns wide first i n : ℕ) (m m' w : LoggedCells) → i < n → ns ≡ ms → m' ≡ change_each ns k (from (first + i * columns) wide) m
    → change_each ms k (block_cells columns wide (first + i * columns) (n - i)) m ≡ w → change_each ms k (block_cells columns wide (first + (i + 1) * columns) (n - (i + 1))) m' ≡ w
block_turn ms ns k columns wide first i n m m' w l marks row all =
    ap₂ (λ j z. change_each ms k (block_cells columns wide j (n - (i + 1))) z) next (row ∙ ap (λ z. change_each z k (from (first + i * columns) wide) m) marks)
    ∙ sym (each_append (change_one ms k) (from (first + i * columns) wide) (block_cells columns wide (first + i * columns + columns) (n - (i + 1))) m)
    ∙ sym (ap (λ r. change_each ms k (block_cells columns wide (first + i * columns) r) m) left) ∙ all
  where
    next : first + (i + 1) * columns ≡ first + i * columns + columns
    next = let parts : (i + 1) * columns ≡ i * columns + columns = simp (add-mul, one-mul) in omega arith

    left : n - i ≡ suc (n - (i + 1))
    left = omega arith

-- the cells of a world with the lane that logs them, taken out and put back
abbrev pub cells_in : World stage → LoggedCells
cells_in w = record { cells = w.core.state.cells; spots = w.spots }

abbrev pub put_cells : World stage → LoggedCells → World stage
put_cells w m =
    record {
      core = record { state = with_cells w.core.state m.cells; entries = w.core.entries };
      small = w.small;
      large = w.large;
      spots = m.spots;
      marks = w.marks;
    }

rising_append : (n b i : ℕ) (rest : List ℕ) → b ≤ i → Rising (i + n) rest → Rising b (from i n ++ rest)
rising_append zero b i rest l h = rising_less b (i + 0) rest (omega arith) h
  where
    rising_less : (b c : ℕ) (is : List ℕ) → b ≤ c → Rising c is → Rising b is
    rising_less b c [] l h = tt
    rising_less b c (i ∷ is) l h = (omega (arith, h.0), h.1)
rising_append (suc n) b i rest l h = (l, rising_append n (suc i) (suc i) rest (omega arith) (subst (λ k. Rising k rest) next h))
  where
    next : i + suc n ≡ suc i + n
    next = omega arith

pub rising_block : (columns wide n b i : ℕ) → wide ≤ columns → b ≤ i → Rising b (block_cells columns wide i n)
rising_block columns wide zero b i h l = tt
rising_block columns wide (suc n) b i h l = rising_append wide b i (block_cells columns wide (i + columns) n) l (rising_block columns wide n (i + wide) (i + columns) h (omega arith))

-- cells changed one after the other are the spots of the model, set one after the other: each place comes once
pub changes_world : (k : Change) (h : ℕ → Cell) (is : List ℕ) (b : ℕ) (w : World stage) → Rising b is → Each (λ (i : ℕ). i < units w.core.state) is
    → ((i : ℕ) → b ≤ i → changed k (get_or w.core.state.cells i no_cell) ≡ h i)
    → put_cells w (change_each w.marks k is (cells_in w)) ≡ spot_steps (map (λ i. spot.Cell i (h i)) is) w
changes_world k h [] b w r e same = refl
changes_world k h (i ∷ is) b w r e same =
    ap (λ m. put_cells w (change_each w.marks k is m)) one
    ∙ changes_world k h is (suc i) (spot_step (spot.Cell i (h i)) w) r.1 e.1 rest
  where
    cells : List Cell
    cells = w.core.state.cells

    here : set w.core.state.cells i (changed k (get_or w.core.state.cells i no_cell)) ≡ put_below (units w.core.state) i (h i) w.core.state.cells
    here =
        ap (λ c. set w.core.state.cells i c) (same i r.0)
        ∙ sym (ap (λ b. cond b (set w.core.state.cells i (h i)) w.core.state.cells) (T→true (ltb i (units w.core.state)) (lt→ltb i (units w.core.state) e.0)))

    one : change_one w.marks k i (cells_in w) ≡ cells_in (spot_step (spot.Cell i (h i)) w)
    one = λ j. record { cells = here j; spots = log_if w.marks w.spots (spot.Cell i (get_or w.core.state.cells i no_cell) ∷ []) }

    rest : (j : ℕ) → suc i ≤ j → changed k (get_or (put_below (units w.core.state) i (h i) w.core.state.cells) j no_cell) ≡ h j
    rest j l =
        ap (λ c. changed k c) (ap (λ z. get_or z j no_cell) (sym here) ∙ get_or-set_other w.core.state.cells i j (changed k (get_or w.core.state.cells i no_cell)) no_cell (omega arith))
        ∙ same j (omega (arith, r.0))

-- the world after a block's cells are changed, from what became of its parts
set_world : (s : State) (j j' : Journal) (l l' : Lent stage) (es : List Entry) (cells : List Cell) (m : LoggedCells)
    → logged_cells cells l'.spots j'.used.spots ≡ m
    → l'.small ≡ l.small → l'.large ≡ l.large → OnlySpots j' j
    → world_at (with_cells s cells) j' l' es ≡ put_cells (world_at s j l es) m
set_world s j j' l l' es cells m e a b kept =
    λ i. record {
      core = record { state = with_cells s (e i).cells; entries = es };
      small = lane (a i) (kept.small i);
      large = lane (b i) (kept.large i);
      spots = (e i).spots;
      marks = same_marks j' j kept i;
    }

-- while no trial is open nothing is logged
quiet_cells : (k : Change) (is : List ℕ) (m : LoggedCells) → (change_each [] k is m).spots ≡ m.spots
quiet_cells k [] m = refl
quiet_cells k (i ∷ is) m = quiet_cells k is (change_one [] k i m)

pub still_quiet : (k : Change) (is : List ℕ) (j j' : Journal) (cells cells' : List Cell) (spots spots' : List Spot)
    → OnlySpots j' j
    → logged_cells cells' spots' j'.used.spots ≡ change_each (marks_of j) k is (logged_cells cells spots j.used.spots)
    → (open_trials j ≡ 0 → (j.used.small ≡ 0) × (j.used.large ≡ 0) × (j.used.spots ≡ 0))
    → open_trials j' ≡ 0 → (j'.used.small ≡ 0) × (j'.used.large ≡ 0) × (j'.used.spots ≡ 0)
still_quiet k is j j' cells cells' spots spots' kept changes quiet closed =
    let before : open_trials j ≡ 0 = sym (same_trials j' j kept) ∙ closed in
    let unused : (j.used.small ≡ 0) × (j.used.large ≡ 0) × (j.used.spots ≡ 0) = quiet before in (
      kept.small ∙ unused.0,
      kept.large ∙ unused.1,
      ap (λ (m : LoggedCells). m.spots.used) changes
          ∙ ap (λ ms. (change_each ms k is (logged_cells cells spots j.used.spots)).spots.used) (none_open j before)
          ∙ ap (λ (l : Lane Spot). l.used) (quiet_cells k is (logged_cells cells spots j.used.spots)) ∙ unused.2,
    )

-- a block's cells, changed in the world w, from what became of the parts
pub block_world : (k : Change) (s : State) (x y : ℕ) (z : BlockSize) (j j' : Journal) (l l' : Lent stage) (es : List Entry) (cells : List Cell) (b : Block) (w : World stage)
    → T (in_tile s x y z) → b ≡ block_at s.columns s.rows x y z → world_at s j l es ≡ w
    → logged_cells cells l'.spots j'.used.spots ≡ change_each (marks_of j) k (block_cells s.columns b.width b.from b.height) (logged_cells s.cells l.spots j.used.spots)
    → l'.small ≡ l.small → l'.large ≡ l.large → OnlySpots j' j
    → world_at (with_cells s cells) j' l' es ≡ spot_steps (map (λ i. spot.Cell i (changed k (get_or w.core.state.cells i no_cell))) (cells_of w.core.state x y z)) w
unfolding cells_of
block_world k s x y z j j' l l' es cells b w placed block same changes a c kept =
    set_world s j j' l l' es cells (change_each (marks_of j) k is (logged_cells s.cells l.spots j.used.spots))
    (changes ∙ ap (λ (q : Block). change_each (marks_of j) k (block_cells s.columns q.width q.from q.height) (logged_cells s.cells l.spots j.used.spots)) block)
    a c kept
    ∙ changes_world k (λ i. changed k (get_or s.cells i no_cell)) is 0 (world_at s j l es) rising (cells_inside s x y z placed) (λ i h. refl)
    ∙ ap (λ v. spot_steps (map (λ i. spot.Cell i (changed k (get_or v.core.state.cells i no_cell))) (cells_of v.core.state x y z)) v) same
  where
    is : List ℕ
    is = cells_of s x y z

    fits : (block_at s.columns s.rows x y z).width ≤ s.columns
    fits = omega arith

    rising : Rising 0 (cells_of s x y z)
    rising = rising_block s.columns (block_at s.columns s.rows x y z).width (block_at s.columns s.rows x y z).height 0 (y * s.columns + x) fits (omega arith)

-- the tile's cells lent as the first part of the map; k is the length that the checker writes for the part
pub part_long : (memory : List Cell) (n k : ℕ) → k ≡ n → n ≤ length memory → length (mid_of 0 k memory) ≡ n
part_long memory n k e h = length-take k memory ∙ omega arith

pub part_taken : (memory ys : List Cell) (n k : ℕ) → k ≡ n → n ≤ length memory → length ys ≡ length (mid_of 0 k memory) → take n (put_mid 0 k memory ys) ≡ ys
part_taken memory ys n k e h long = take_at ys (post_of 0 k memory) n (long ∙ part_long memory n k e h)

pub part_dropped : (memory ys : List Cell) (n k : ℕ) → k ≡ n → n ≤ length memory → length ys ≡ length (mid_of 0 k memory) → drop n (put_mid 0 k memory ys) ≡ drop n memory
part_dropped memory ys n k e h long = drop_at ys (post_of 0 k memory) n (long ∙ part_long memory n k e h) ∙ ap (λ (i : ℕ). drop i memory) e
