-- A skip decision of the stage is the model's.
use Rattle.stage.specs.Lanes.{OnlySpots}
use Rattle.std.proofs.Common.{◌≡◌, ℕ, ◌*◌, ◌≤◌, Bool, true, List, length, take, Ok, Err, sym, refl, ap, ◌∙◌}
use mathlib.Core.Option.{none}
use mir.Val.{bool_byte}
use Rattle.av1.specs.declared.refusal.Refusal.{Refusal}
use Rattle.av1.specs.declared.size.BlockSize.{BlockSize}
use Rattle.av1.specs.declared.tile.Block.{Block}
use Rattle.av1.specs.declared.tile.Cell.{Cell}
use Rattle.av1.specs.declared.tile.Tile.{Tile}
use Rattle.av1.specs.Tiles.{block_at, block_asked}
use Rattle.av1.specs.Tiles as tile
use Rattle.cdf.specs.declared.entry.Entry.{Entry}
use Rattle.cdf.specs.Words.{table}
use Rattle.model.specs.declared.Question.TheVariants as question
use Rattle.model.specs.Calls.{decision_step, symbol_step}
use Rattle.model.specs.Coders.{whole}
use Rattle.model.specs.Decisions.{State, stage, skip_context, block_cells, with_words, tree, path, settled}
use Rattle.model.specs.Facts.{with_cells}
use Rattle.model.specs.Runs.{World, Lent, or_else}
use Rattle.model.specs.Tree.{written}
use Rattle.model.proofs.Blocks.{skip_set}
use Rattle.stage.specs.declared.state.Journal.{Journal}
use Rattle.stage.specs.declared.state.cells.Change.TheVariants as change
use Rattle.stage.specs.Cells.{logged_cells, change_each, FlagSet}
use Rattle.stage.specs.Questions.{need, record_asked, area}
use Rattle.stage.specs.View.{marks_of, world_at, refused_by}
use Rattle.stage.proofs.Blocks.{asked_rest, block_after, cells_set}
use Rattle.stage.proofs.Calls.{refused_step, accepted_step, accepted_world, skip_refusal}

module _ (memory : ℕ) (room : List Entry → ℕ) (s : State) (j : Journal) (l : Lent stage) (es : List Entry) (x y : ℕ) (z : BlockSize) (flag : Bool) where
  pub refused_block : (e : Refusal) → Err e ≡ block_asked s.columns s.rows memory 64 x y z
      → (Err e, world_at s j l es) ≡ decision_step memory room (question.Skip x y z) flag (world_at s j l es)
  refused_block e h =
      refused_step memory room (question.Skip x y z) flag (world_at s j l es) e
      (skip_refusal memory room s j l es x y z flag
      ∙ ap (λ r. or_else (refused_by r) (refused_by (record_asked j l (room es) 1 (need 1 0 (area (block_at s.columns s.rows x y z)))))) (sym h))

  pub refused_record : (b : Block) (r : ℕ) (e : Refusal) → Ok b ≡ block_asked s.columns s.rows memory 64 x y z → r ≡ room es
      → Err e ≡ record_asked j l r 1 (need 1 0 (area b))
      → (Err e, world_at s j l es) ≡ decision_step memory room (question.Skip x y z) flag (world_at s j l es)
  refused_record b r e h same refused =
      refused_step memory room (question.Skip x y z) flag (world_at s j l es) e
      (skip_refusal memory room s j l es x y z flag ∙ asked_rest memory room s j l es x y z none 1 1 0 r b h same ∙ ap refused_by (sym refused))

  -- the flag's symbol is coded, and then the block's cells are set
  pub accepted : (s' : State) (j' j'' : Journal) (l' l'' : Lent stage) (es' : List Entry) (part cells after : List Cell) (ctx columns r : ℕ) (b : Block) (u : Unit {0})
      → s'.columns ≡ s.columns → s'.rows ≡ s.rows → ctx ≡ skip_context s x y
      → world_at s' j' l' es' ≡ symbol_step (whole (table (2 * ctx) 2)) (bool_byte flag) (world_at s j l es)
      → Ok b ≡ block_asked s.columns s.rows memory 64 x y z → r ≡ room es → Ok u ≡ record_asked j l r 1 (need 1 0 (area b))
      → columns ≡ s'.columns → part ≡ s'.cells → after ≡ cells
      → logged_cells cells l''.spots j''.used.spots ≡ change_each (marks_of j') (change.Skip flag) (block_cells columns b.width b.from b.height) (logged_cells part l'.spots j'.used.spots)
      → l''.small ≡ l'.small → l''.large ≡ l'.large → OnlySpots j'' j'
      → (Ok 1, world_at (with_cells s' after) j'' l'' es') ≡ decision_step memory room (question.Skip x y z) flag (world_at s j l es)
  accepted s' j' j'' l' l'' es' part cells after ctx columns r b u wide high context coded block same recorded across own whole_map changes a c kept =
      accepted_step memory room (question.Skip x y z) flag (world_at s j l es) (world_at (with_cells s' after) j'' l'' es') 1
      (skip_refusal memory room s j l es x y z flag ∙ asked_rest memory room s j l es x y z none 1 1 0 r b block same ∙ ap refused_by (sym recorded)) refl
      (block_after (question.Skip x y z) flag (change.Skip flag) memory s s' j j' j'' l l' l'' es es' x y z part cells after columns b (λ v. refl) wide high
      (coded ∙ ap (λ n. symbol_step (whole (table (2 * n) 2)) (bool_byte flag) (world_at s j l es)) context)
      block across own whole_map changes a c kept)

-- what an accepted skip decision makes of the map
pub flag_set : (memory : ℕ) (room : List Entry → ℕ) (w v : World stage) (t : Tile) (before after : List Cell) (x y : ℕ) (z : BlockSize) (flag : Bool)
    → (Ok 1, v) ≡ decision_step memory room (question.Skip x y z) flag w
    → w.core.state.columns ≡ t.cols → w.core.state.rows ≡ t.rows → w.core.state.cells ≡ take (t.cols * t.rows) before → v.core.state.cells ≡ take (t.cols * t.rows) after
    → t.cols * t.rows ≤ length before → tile.in_tile t.cols t.rows x y z ≡ true → FlagSet t x y z flag before after
flag_set memory room w v t before after x y z flag step wide high was is long placed =
    cells_set (λ c. record { skip = flag; segment = c.segment }) here (settled here (question.Skip x y z) flag) t before after x y z wide high was
    (sym (ap (λ (u : World stage). u.core.state.cells) (accepted_world memory room (question.Skip x y z) flag w v 1 step)) ∙ is) long placed (skip_set here x y z flag)
  where
    here : State
    here = with_words w.core.state (written w.core.state.words (tree w.core.state (question.Skip x y z)) (path w.core.state (question.Skip x y z) flag)).words
