-- What a read answers, and the state after it, where it sets the cells of a block and where it does not.
use Rattle.std.proofs.Common.{◌≡◌, ℕ, zero, suc, ◌+◌, ◌*◌, ◌≤◌, Bool, true, false, cond, not, eqb, leb, List, [], ◌∷◌, map, get_or, take, drop, Ok, Err, Result, sym, refl, ap, ◌∙◌, arith}
use mathlib.Core.Option.{Option, none, some}
use Rattle.std.proofs.lemmas.Bool.{ne_eqb}
use Rattle.av1.specs.declared.refusal.Refusal.{Refusal}
use Rattle.av1.specs.declared.refusal.Refusal.TheVariants as no
use Rattle.av1.specs.declared.size.BlockSize.{BlockSize}
use Rattle.av1.specs.declared.tile.Block.{Block}
use Rattle.av1.specs.declared.tile.Cell.{Cell}
use Rattle.av1.specs.Sizes.{no_side_above, splits}
use Rattle.av1.specs.Tiles.{block_at, block_asked, no_cell}
use Rattle.av1.specs.Tiles as tile
use Rattle.cdf.specs.declared.entry.Entry.{Entry}
use Rattle.cdf.specs.declared.tables.Tables.{Tables}
use Rattle.cdf.specs.Lists.{Rising}
use Rattle.cdf.specs.Words.{Words}
use Rattle.cdf.proofs.Booleans.{true→T}
use Rattle.journal.specs.declared.Spot.{Spot}
use Rattle.journal.specs.declared.Spot.TheVariants as spot
use Rattle.model.proofs.Facts.{cells_inside}
use Rattle.model.specs.declared.Question.{Question}
use Rattle.model.specs.Calls.{spot_step, spot_steps}
use Rattle.model.specs.Decisions.{Decision, State, block_cells, cells_of, flag_read, put_spots, spots, stage, tree, with_words}
use Rattle.model.specs.Reading.{read_step, read_told}
use Rattle.model.specs.Runs.{World, fault, or_else, read_asked, settle, turned, unless}
use Rattle.model.specs.Tree.{Fault, Syntax, faulty, read, read_as}
use Rattle.stage.specs.declared.reader.fault.ReadFault.{ReadFault}
use Rattle.stage.specs.declared.state.Stage.{Stage}
use Rattle.stage.specs.declared.state.cells.Change.{Change}
use Rattle.stage.specs.Cells.{changed}
use Rattle.stage.specs.Reads.{OnlyTables, Point, Reads, ahead, block_set, told}
use Rattle.stage.specs.View.{lane, refused_by, state_of}
use Rattle.stage.proofs.Calls.{asked_block}
use Rattle.stage.proofs.Cells.{changes_world, rising_block}
use Rattle.stage.proofs.ReadPoints.{only_then}

-- the model's answer to a decision that began at its point
pub from_start : {D : Type 0} {start : ℕ} {t : Syntax D} {m n : Point} {r : Result D ReadFault} → Reads start t m n r → start ≡ m.place
    → told r n ≡ read m.stage.tables.words t m.place 0 m.place (ahead m)
from_start {D} {start} {t} {m} {n} {r} x e = x.answer 0 ∙ ap (λ i. read m.stage.tables.words t i 0 m.place (ahead m)) e

-- reading changes the words at most
pub read_state : (s t : Stage) (memory : List Cell) → OnlyTables s t → state_of s memory ≡ with_words (state_of t memory) s.tables.words
read_state s t memory k =
    λ i. record {
      columns = (k.tile i).cols;
      rows = (k.tile i).rows;
      last = k.last i;
      words = s.tables.words;
      above = (k.contexts i).above;
      left = (k.contexts i).left;
      cells = take ((k.tile i).cols * (k.tile i).rows) memory;
    }

module _ (memory : ℕ) (es : List Entry) (q : Question) (s : State) (p : ℕ) where
  pub refused_read : (e : Refusal) → read_asked stage memory s q ≡ some e → (Err (turned e), s, p) ≡ read_step memory es q s p
  unfolding read_step
  refused_read e h =
      sym (ap (λ (o : Option Refusal). elim o [ some n ↦ (Err (turned n), s, p) | none ↦ read_told q s p (read s.words (tree s q) p 0 p (drop p es)) ]) h)

  pub faulty_read : (f : Fault) → read_asked stage memory s q ≡ none → faulty f ≡ read s.words (tree s q) p 0 p (drop p es) → (Err (fault f), s, p) ≡ read_step memory es q s p
  unfolding read_step
  faulty_read f h k =
      ap (read_told q s p) k
      ∙ sym (ap (λ (o : Option Refusal). elim o [ some n ↦ (Err (turned n), s, p) | none ↦ read_told q s p (read s.words (tree s q) p 0 p (drop p es)) ]) h)

  pub accepted_read : (d : Decision q) (w : Words) (rest : List Entry) (next : ℕ) (t : State) → read_asked stage memory s q ≡ none
      → read_as d w rest next ≡ read s.words (tree s q) p 0 p (drop p es) → t ≡ settle stage s q d w → (Ok d, t, next) ≡ read_step memory es q s p
  unfolding read_step
  accepted_read d w rest next t h k same =
      (λ i. (Ok d, same i, next)) ∙ ap (read_told q s p) k
      ∙ sym (ap (λ (o : Option Refusal). elim o [ some n ↦ (Err (turned n), s, p) | none ↦ read_told q s p (read s.words (tree s q) p 0 p (drop p es)) ]) h)

-- the questions of a read that sets the cells of its block
pub block_asked_first : (columns rows memory x y : ℕ) (z : BlockSize)
    → or_else (unless (leb (columns * rows) memory) no.MapMemory) (or_else (unless (no_side_above 64 z) no.BlockSize) (unless (tile.in_tile columns rows x y z) no.Position))
    ≡ refused_by (block_asked columns rows memory 64 x y z)
block_asked_first columns rows memory x y z = go (leb (columns * rows) memory) (no_side_above 64 z) (tile.in_tile columns rows x y z)
  where
    b : Block
    b = block_at columns rows x y z

    go : (a c d : Bool)
        → or_else (unless a no.MapMemory) (or_else (unless c no.BlockSize) (unless d no.Position))
        ≡ refused_by (cond a (cond c (cond d (Ok b) (Err no.Position)) (Err no.BlockSize)) (Err no.MapMemory))
    go true true true = refl
    go true true false = refl
    go true false d = refl
    go false c d = refl

-- and of one that asks for a square
pub square_asked_first : (columns rows x y : ℕ) (z : BlockSize)
    → or_else (unless (splits 64 z) no.BlockSize) (unless (tile.in_tile columns rows x y z) no.Position) ≡ refused_by (tile.square_asked columns rows 64 x y z)
square_asked_first columns rows x y z = go (splits 64 z) (tile.in_tile columns rows x y z)
  where
    go : (a b : Bool) → or_else (unless a no.BlockSize) (unless b no.Position) ≡ refused_by (cond a (cond b (Ok (tt {0})) (Err no.Position)) (Err no.BlockSize))
    go true true = refl
    go true false = refl
    go false b = refl

-- spots set in a world are set in its state
steps_state : (ps : List Spot) (w : World stage) → (spot_steps ps w).core.state ≡ put_spots w.core.state ps
steps_state [] w = refl
steps_state (p ∷ ps) w = steps_state ps (spot_step p w)

-- a block's cells are those of the model
block_put : (k : Change) (s : State) (x y : ℕ) (z : BlockSize) (b : Block) → tile.in_tile s.columns s.rows x y z ≡ true → b ≡ block_at s.columns s.rows x y z
    → block_set k b s ≡ put_spots s (map (λ i. spot.Cell i (changed k (get_or s.cells i no_cell))) (cells_of s x y z))
unfolding cells_of
block_put k s x y z b placed at =
    ap (λ (c : Block). block_set k c s) at
    ∙ ap (λ v. v.core.state) (changes_world k (λ i. changed k (get_or s.cells i no_cell)) is 0 w rising (cells_inside s x y z (true→T (tile.in_tile s.columns s.rows x y z) placed)) (λ i h. refl))
    ∙ steps_state (map (λ i. spot.Cell i (changed k (get_or s.cells i no_cell))) is) w
  where
    w : World stage
    w = record { core = record { state = s; entries = [] }; small = lane [] 0; large = lane [] 0; spots = lane [] 0; marks = [] }

    is : List ℕ
    is = block_cells s.columns (block_at s.columns s.rows x y z).width (block_at s.columns s.rows x y z).from (block_at s.columns s.rows x y z).height

    fits : (block_at s.columns s.rows x y z).width ≤ s.columns
    fits = omega arith

    rising : Rising 0 (block_cells s.columns (block_at s.columns s.rows x y z).width (block_at s.columns s.rows x y z).from (block_at s.columns s.rows x y z).height)
    rising = rising_block s.columns (block_at s.columns s.rows x y z).width (block_at s.columns s.rows x y z).height 0 (y * s.columns + x) fits (omega arith)

-- a decision that sets the cells of its block is read, and they are set
pub block_read : (memory : ℕ) (es : List Entry) (q : Question) (s : State) (p : ℕ) (x y : ℕ) (z : BlockSize) (b : Block) (k : Change) (d : Decision q) (w : Words) (rest : List Entry) (next : ℕ) (t u : State)
    → ((v : State) → map (λ i. spot.Cell i (changed k (get_or v.cells i no_cell))) (cells_of v x y z) ≡ spots v q d)
    → read_asked stage memory s q ≡ refused_by (block_asked s.columns s.rows memory 64 x y z)
    → Ok b ≡ block_asked s.columns s.rows memory 64 x y z
    → read_as d w rest next ≡ read s.words (tree s q) p 0 p (drop p es)
    → t ≡ with_words s w → u ≡ block_set k b t
    → (Ok d, u, next) ≡ read_step memory es q s p
block_read memory es q s p x y z b k d w rest next t u set questions asked given read_to set_to =
    accepted_read memory es q s p d w rest next u (questions ∙ sym (ap refused_by asked)) given
    (set_to ∙ ap (block_set k b) read_to ∙ block_put k (with_words s w) x y z b found.0 found.1 ∙ ap (put_spots (with_words s w)) (set (with_words s w)))
  where
    found : (tile.in_tile s.columns s.rows x y z ≡ true) × (b ≡ block_at s.columns s.rows x y z)
    found = asked_block s.columns s.rows memory 64 x y z b asked

-- a flag by its symbol
pub flag_same : (s : ℕ) → not (eqb s 0) ≡ flag_read s
flag_same zero = refl
flag_same (suc n) = ap not (ne_eqb (suc n) 0 (λ e. absurd (omega arith)))

-- tables as they were make the state as it was
pub back_state : (s t u : Stage) (memory : List Cell) → OnlyTables t s → OnlyTables u t → u.tables ≡ s.tables → state_of u memory ≡ state_of s memory
back_state s t u memory k j same =
    read_state u s memory (only_then j k) ∙ ap (λ (v : Tables). with_words (state_of s memory) v.words) same
