-- A decision that sets the cells of its block: its questions, the world after it, and what becomes of the map.
use Rattle.stage.specs.Lanes.{OnlySpots}
use Rattle.std.proofs.Common.{◌≡◌, ℕ, ◌+◌, ◌*◌, ◌<◌, ◌≤◌, min, true, cond, T, List, map, length, get_or, take, Ok, sym, ap, ◌∙◌, subst, ap₂, arith}
use mathlib.Core.Option.{Option}
use Rattle.std.proofs.lemmas.Nat.{mul-add-lt}
use Rattle.std.proofs.lemmas.List.{get_or-take, length-take}
use Rattle.av1.specs.declared.refusal.Refusal.{Refusal}
use Rattle.av1.specs.declared.size.BlockSize.{BlockSize}
use Rattle.av1.specs.declared.tile.Block.{Block}
use Rattle.av1.specs.declared.tile.Cell.{Cell}
use Rattle.av1.specs.declared.tile.Tile.{Tile}
use Rattle.av1.specs.Tiles.{no_cell, block_at, block_asked}
use Rattle.av1.specs.Tiles as tile
use Rattle.cdf.specs.declared.entry.Entry.{Entry}
use Rattle.cdf.proofs.Booleans.{true→T}
use Rattle.journal.specs.declared.Spot.TheVariants as spot
use Rattle.model.specs.declared.Question.{Question}
use Rattle.model.specs.Calls.{symbol_steps, spot_steps}
use Rattle.model.specs.Decisions.{State, Decision, stage, units, block_cells, cells_of, with_words, tree, path, spots}
use Rattle.model.specs.Facts.{with_cells, unit_at, covers}
use Rattle.model.specs.Runs.{World, Lent, or_else}
use Rattle.model.specs.Tree.{written}
use Rattle.model.proofs.Stepping.{symbols_state}
use Rattle.stage.specs.declared.state.Journal.{Journal}
use Rattle.stage.specs.declared.state.cells.Change.{Change}
use Rattle.stage.specs.Cells.{CellsSet, changed, logged_cells, change_each}
use Rattle.stage.specs.Questions.{need, record_asked, area}
use Rattle.stage.specs.View.{marks_of, world_at, refused_by}
use Rattle.stage.proofs.Calls.{asked_block}
use Rattle.stage.proofs.Cells.{block_world}

-- the questions that are left once the block is accepted
pub asked_rest : (memory : ℕ) (room : List Entry → ℕ) (s : State) (j : Journal) (l : Lent stage) (es : List Entry) (x y : ℕ) (z : BlockSize) (more : Option Refusal) (n a c r : ℕ) (b : Block)
    → Ok b ≡ block_asked s.columns s.rows memory 64 x y z → r ≡ room es
    → or_else (refused_by (block_asked s.columns s.rows memory 64 x y z)) (or_else more (refused_by (record_asked j l (room es) n (need a c (area (block_at s.columns s.rows x y z))))))
    ≡ or_else more (refused_by (record_asked j l r n (need a c (area b))))
asked_rest memory room s j l es x y z more n a c r b h e =
    ap (λ k. or_else (refused_by k) (or_else more (refused_by (record_asked j l (room es) n (need a c (area (block_at s.columns s.rows x y z))))))) (sym h)
    ∙ ap₂ (λ k q. or_else more (refused_by (record_asked j l k n (need a c (area q))))) (sym e) (sym (asked_block s.columns s.rows memory 64 x y z b h).1)

-- the symbols are coded, and then the block's cells are set
pub block_after : (q : Question) (d : Decision q) (k : Change) (memory : ℕ) (s s' : State) (j j' j'' : Journal) (l l' l'' : Lent stage) (es es' : List Entry) (x y : ℕ) (z : BlockSize)
    (part cells after : List Cell) (columns : ℕ) (b : Block)
    → ((v : State) → map (λ i. spot.Cell i (changed k (get_or v.cells i no_cell))) (cells_of v x y z) ≡ spots v q d)
    → s'.columns ≡ s.columns → s'.rows ≡ s.rows
    → world_at s' j' l' es' ≡ symbol_steps (tree s q) (path s q d) (world_at s j l es)
    → Ok b ≡ block_asked s.columns s.rows memory 64 x y z
    → columns ≡ s'.columns → part ≡ s'.cells → after ≡ cells
    → logged_cells cells l''.spots j''.used.spots ≡ change_each (marks_of j') k (block_cells columns b.width b.from b.height) (logged_cells part l'.spots j'.used.spots)
    → l''.small ≡ l'.small → l''.large ≡ l'.large → OnlySpots j'' j'
    → world_at (with_cells s' after) j'' l'' es'
    ≡ spot_steps (spots (with_words s (written s.words (tree s q) (path s q d)).words) q d) (symbol_steps (tree s q) (path s q d) (world_at s j l es))
block_after q d k memory s s' j j' j'' l l' l'' es es' x y z part cells after columns b set wide high coded block across own whole_map changes a c kept =
    ap (λ m. world_at (with_cells s' m) j'' l'' es') whole_map
    ∙ block_world k s' x y z j' j'' l' l'' es' cells b w placed at coded
    (changes ∙ ap₂ (λ n m. change_each (marks_of j') k (block_cells n b.width b.from b.height) (logged_cells m l'.spots j'.used.spots)) across own)
    a c kept
    ∙ ap (λ ps. spot_steps ps w) (set w.core.state ∙ ap (λ v. spots v q d) (symbols_state (Decision q) (tree s q) (path s q d) (world_at s j l es)))
  where
    w : World stage
    w = symbol_steps (tree s q) (path s q d) (world_at s j l es)

    found : (tile.in_tile s.columns s.rows x y z ≡ true) × (b ≡ block_at s.columns s.rows x y z)
    found = asked_block s.columns s.rows memory 64 x y z b block

    placed : T (tile.in_tile s'.columns s'.rows x y z)
    placed = true→T (tile.in_tile s'.columns s'.rows x y z) (ap₂ (λ m n. tile.in_tile m n x y z) wide high ∙ found.0)

    at : b ≡ block_at s'.columns s'.rows x y z
    at = found.1 ∙ sym (ap₂ (λ m n. block_at m n x y z) wide high)

-- what becomes of the map, from what becomes of the units
pub cells_set : (f : Cell → Cell) (s next : State) (t : Tile) (before after : List Cell) (x y : ℕ) (z : BlockSize)
    → s.columns ≡ t.cols → s.rows ≡ t.rows → s.cells ≡ take (t.cols * t.rows) before → next.cells ≡ take (t.cols * t.rows) after
    → t.cols * t.rows ≤ length before → tile.in_tile t.cols t.rows x y z ≡ true
    → (length s.cells ≡ units s → tile.in_tile s.columns s.rows x y z ≡ true
    → (next ≡ with_cells s next.cells) × ((u v : ℕ) → u < s.columns → v < s.rows → unit_at next u v ≡ cond (covers x y z u v) (f (unit_at s u v)) (unit_at s u v)))
    → CellsSet f t x y z before after
cells_set f s next t before after x y z columns rows cells is long placed law a b a_in b_in =
    seen after ∙ ap (λ l. get_or l (b * t.cols + a) no_cell) (sym is) ∙ ap (λ n. get_or next.cells (b * n + a) no_cell) (sym columns_kept)
    ∙ (law mapped in_place).1 a b (subst (λ n. a < n) (sym columns) a_in) (subst (λ n. b < n) (sym rows) b_in)
    ∙ ap (λ c. cond (covers x y z a b) (f c) c) own
  where
    inside : b * t.cols + a < t.cols * t.rows
    inside = mul-add-lt b t.cols a t.rows b_in a_in

    seen : (l : List Cell) → get_or l (b * t.cols + a) no_cell ≡ get_or (take (t.cols * t.rows) l) (b * t.cols + a) no_cell
    seen l = sym (get_or-take (t.cols * t.rows) l (b * t.cols + a) no_cell inside)

    mapped : length s.cells ≡ s.columns * s.rows
    mapped = ap length cells ∙ length-take (t.cols * t.rows) before ∙ (let l : min (t.cols * t.rows) (length before) ≡ t.cols * t.rows = omega arith in l) ∙ sym (ap₂ (λ m n. m * n) columns rows)

    in_place : tile.in_tile s.columns s.rows x y z ≡ true
    in_place = ap₂ (λ m n. tile.in_tile m n x y z) columns rows ∙ placed

    own : unit_at s a b ≡ get_or before (b * t.cols + a) no_cell
    own = ap₂ (λ l n. get_or l (b * n + a) no_cell) cells columns ∙ sym (seen before)

    columns_kept : next.columns ≡ t.cols
    columns_kept = ap (λ (u : State). u.columns) (law mapped in_place).0 ∙ columns
