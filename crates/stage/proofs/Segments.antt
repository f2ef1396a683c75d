-- A segment decision of the stage is the model's.
use Rattle.stage.specs.Lanes.{OnlySpots}
use Rattle.std.proofs.Common.{◌≡◌, ℕ, suc, ◌+◌, ◌*◌, ◌<◌, ◌≤◌, min, Bool, true, false, cond, not, ◌||◌, leb, List, [], map, length, get_or, take, Some, None, Option, is_some, is_none, Ok, Err, Result, sym, refl, ap, ◌∙◌, ap₂, arith, le→leb, leb→le}
use mathlib.Core.Option.{none, some}
use mir.Val.{bool_byte}
use Rattle.av1.specs.declared.refusal.Refusal.{Refusal}
use Rattle.av1.specs.declared.refusal.Refusal.TheVariants as no
use Rattle.av1.specs.declared.size.BlockSize.{BlockSize}
use Rattle.av1.specs.declared.tile.Block.{Block}
use Rattle.av1.specs.declared.tile.Cell.{Cell}
use Rattle.av1.specs.declared.tile.Tile.{Tile}
use Rattle.av1.specs.Segments.{natural, near_segments, segment_context, segment_prediction, interleaved, deinterleaved}
use Rattle.av1.specs.Tiles.{no_cell, block_at, block_asked}
use Rattle.av1.specs.Tiles as tile
use Rattle.cdf.specs.declared.entry.Entry.{Entry}
use Rattle.cdf.specs.Words.{Words, table}
use Rattle.cdf.proofs.Booleans.{true→T, T→true, not-T→false}
use Rattle.journal.specs.declared.Spot.TheVariants as spot
use Rattle.model.specs.declared.Question.TheVariants as question
use Rattle.model.specs.Calls.{segment_step, symbol_steps}
use Rattle.model.specs.Coders.{whole, after}
use Rattle.model.specs.Decisions.{State, stage, prediction, segment_number, segment_read, segment_tree, segment_path, segment_decided, segment_spot, block_cells, cells_of, small_of, large_of, with_words, tree, path, settled}
use Rattle.model.specs.Facts.{with_cells}
use Rattle.model.specs.Runs.{World, Lent, ask, refusal, or_else, unless}
use Rattle.model.specs.Tree.{Syntax, done, never, written}
use Rattle.model.proofs.Blocks.{segment_set}
use Rattle.stage.specs.declared.state.Journal.{Journal}
use Rattle.stage.specs.declared.state.cells.Change.TheVariants as change
use Rattle.stage.specs.Cells.{changed, logged_cells, change_each, SegmentSet}
use Rattle.stage.specs.Questions.{need, record_asked, area}
use Rattle.stage.specs.View.{marks_of, world_at, refused_by}
use Rattle.stage.proofs.Blocks.{asked_rest, block_after, cells_set}
use Rattle.stage.proofs.Calls.{refused_segment, accepted_segment, segment_world, set_refusal, block_spots}

-- the prediction and the table's number are the model's
pub prediction_here : (s : State) (x y : ℕ) → min (natural (near_segments s.columns s.rows s.cells segment_prediction x y)) s.last ≡ prediction s x y
unfolding prediction
prediction_here s x y = refl

pub number_here : (s : State) (x y : ℕ) → near_segments s.columns s.rows s.cells segment_context x y ≡ segment_number s x y
unfolding segment_number
number_here s x y = refl

-- behind its symbol a segment has no more
no_more : (P : Syntax ℕ → Type 0) → ((d : ℕ) → P (done d)) → P (never no.SymbolAboveLast) → (last near v : ℕ) → P (segment_read last near v)
no_more P f g last near v = go (leb v last)
  where
    d : ℕ
    d = deinterleaved v near (last + 1)

    go : (b : Bool) → P (cond b (done (deinterleaved v near (last + 1))) (never no.SymbolAboveLast))
    go true = f d
    go false = g

-- a segment that is given is one entry and one window of 16 words
pub carries : (o : Option ℕ) → bool_byte (is_some o) ≡ bool_byte (not (is_none o))
carries None = refl
carries (Some n) = refl

-- the same count, written otherwise
pub recounted : (n m d : ℕ) (w : World stage) → n ≡ m → ◌≡◌ {A = Result (ℕ × ℕ) Refusal × World stage} (Ok (n, d), w) (Ok (m, d), w)
recounted n m d w e = ap (λ k. (Ok (k, d), w)) e

-- an unskipped segment has one symbol, one entry and one window of 16 words
path_length : (skip : Bool) (last near id : ℕ) → length (segment_path skip last near id) ≡ bool_byte (not skip)
path_length true last near id = refl
path_length false last near id = refl

-- the words after a segment's symbol
abbrev coded_words : Words → ℕ → ℕ → Words
coded_words w number v = after w (whole (table (30 + 8 * number) 8)) v

small_length : (skip : Bool) (w : Words) (number last near id : ℕ) → length (small_of w (segment_tree skip number last near) (segment_path skip last near id)) ≡ 0
small_length true w number last near id = refl
small_length false w number last near id =
    let v : ℕ = interleaved id near (last + 1) in
    no_more (λ t. length (small_of (coded_words w number v) t []) ≡ 0) (λ d. refl) refl last near v

large_length : (skip : Bool) (w : Words) (number last near id : ℕ) → length (large_of w (segment_tree skip number last near) (segment_path skip last near id)) ≡ bool_byte (not skip)
large_length true w number last near id = refl
large_length false w number last near id =
    let v : ℕ = interleaved id near (last + 1) in
    ap suc (no_more (λ t. length (large_of (coded_words w number v) t []) ≡ 0) (λ d. refl) refl last near v)

sent_length : (skip : Bool) (w : Words) (number last near id : ℕ) → length (written w (segment_tree skip number last near) (segment_path skip last near id)).entries ≡ bool_byte (not skip)
sent_length true w number last near id = refl
sent_length false w number last near id =
    let v : ℕ = interleaved id near (last + 1) in
    ap suc (no_more (λ t. length (written (coded_words w number v) t []).entries ≡ 0) (λ d. refl) refl last near v)

-- an active segment is allowed, and a skipped one
allowed_active : (skip : Bool) (id last : ℕ) → (skip ≡ false → id ≤ last) → unless (skip || leb id last) no.Segment ≡ none
allowed_active true id last h = refl
allowed_active false id last h = ap (λ b. unless b no.Segment) (T→true (leb id last) (le→leb id last (h refl)))

allowed_above : (skip : Bool) (id last : ℕ) → skip ≡ false → last < id → unless (skip || leb id last) no.Segment ≡ some no.Segment
allowed_above true id last h l = absurd (true→T false (sym h))
allowed_above false id last h l = ap (λ b. unless b no.Segment) (not-T→false (leb id last) (λ t. let k : id ≤ last = leb→le id last t in omega arith))

module _ (memory : ℕ) (room : List Entry → ℕ) (s : State) (j : Journal) (l : Lent stage) (es : List Entry) (x y : ℕ) (z : BlockSize) (skip : Bool) (id : ℕ) where
  -- how many symbols
  abbrev count : ℕ
  count = bool_byte (not skip)

  segment_refusal : refusal stage memory room (world_at s j l es) (ask (question.Segment x y z skip) id)
      ≡ or_else (refused_by (block_asked s.columns s.rows memory 64 x y z))
      (or_else (unless (skip || leb id s.last) no.Segment) (refused_by (record_asked j l (room es) count (need 0 count (area (block_at s.columns s.rows x y z))))))
  segment_refusal =
      set_refusal memory room s j l es x y z (question.Segment x y z skip) id count 0 count refl refl refl (path_length skip s.last near d)
      (small_length skip s.words number s.last near d) (large_length skip s.words number s.last near d) (block_spots v v x y z (segment_spot v d))
    where
      near : ℕ
      near = prediction s x y

      number : ℕ
      number = segment_number s x y

      d : ℕ
      d = segment_decided skip (prediction s x y) id

      v : State
      v = with_words s (written s.words (segment_tree skip number s.last near) (segment_path skip s.last near d)).words

  pub refused_block : (e : Refusal) → Err e ≡ block_asked s.columns s.rows memory 64 x y z
      → (Err e, world_at s j l es) ≡ segment_step memory room x y z skip id (world_at s j l es)
  refused_block e h =
      refused_segment memory room x y z skip id (world_at s j l es) e
      (segment_refusal
      ∙ ap (λ r. or_else (refused_by r) (or_else (unless (skip || leb id s.last) no.Segment) (refused_by (record_asked j l (room es) count (need 0 count (area (block_at s.columns s.rows x y z))))))) (sym h))

  -- the questions that are left once the block is accepted
  asked_segment : (b : Block) (r : ℕ) → Ok b ≡ block_asked s.columns s.rows memory 64 x y z → r ≡ room es
      → refusal stage memory room (world_at s j l es) (ask (question.Segment x y z skip) id) ≡ or_else (unless (skip || leb id s.last) no.Segment) (refused_by (record_asked j l r count (need 0 count (area b))))
  asked_segment b r h same = segment_refusal ∙ asked_rest memory room s j l es x y z (unless (skip || leb id s.last) no.Segment) count 0 count r b h same

  pub refused_number : (b : Block) → Ok b ≡ block_asked s.columns s.rows memory 64 x y z → skip ≡ false → s.last < id
      → (Err no.Segment, world_at s j l es) ≡ segment_step memory room x y z skip id (world_at s j l es)
  refused_number b h unskipped above =
      refused_segment memory room x y z skip id (world_at s j l es) no.Segment
      (asked_segment b (room es) h refl ∙ ap (λ o. or_else o (refused_by (record_asked j l (room es) count (need 0 count (area b))))) (allowed_above skip id s.last unskipped above))

  pub refused_record : (b : Block) (r : ℕ) (e : Refusal) → Ok b ≡ block_asked s.columns s.rows memory 64 x y z → (skip ≡ false → id ≤ s.last) → r ≡ room es
      → Err e ≡ record_asked j l r count (need 0 count (area b))
      → (Err e, world_at s j l es) ≡ segment_step memory room x y z skip id (world_at s j l es)
  refused_record b r e h active same refused =
      refused_segment memory room x y z skip id (world_at s j l es) e
      (asked_segment b r h same ∙ ap₂ (λ o a. or_else o (refused_by a)) (allowed_active skip id s.last active) (sym refused))

  -- the segment's symbol is coded, and then the block's cells are set
  pub accepted : (s' : State) (j' j'' : Journal) (l' l'' : Lent stage) (es' : List Entry) (part cells after : List Cell) (number near d columns r : ℕ) (b : Block) (u : Unit {0})
      → s'.columns ≡ s.columns → s'.rows ≡ s.rows → number ≡ segment_number s x y → near ≡ prediction s x y → d ≡ segment_decided skip near id
      → world_at s' j' l' es' ≡ symbol_steps (segment_tree skip number s.last near) (segment_path skip s.last near d) (world_at s j l es)
      → Ok b ≡ block_asked s.columns s.rows memory 64 x y z → (skip ≡ false → id ≤ s.last) → r ≡ room es → Ok u ≡ record_asked j l r count (need 0 count (area b))
      → columns ≡ s'.columns → part ≡ s'.cells → after ≡ cells
      → logged_cells cells l''.spots j''.used.spots ≡ change_each (marks_of j') (change.Segment d) (block_cells columns b.width b.from b.height) (logged_cells part l'.spots j'.used.spots)
      → l''.small ≡ l'.small → l''.large ≡ l'.large → OnlySpots j'' j'
      → (Ok (count, d), world_at (with_cells s' after) j'' l'' es') ≡ segment_step memory room x y z skip id (world_at s j l es)
  accepted s' j' j'' l' l'' es' part cells after number near d columns r b u wide high table_number foretold set coded block active same recorded across own whole_map changes a c kept =
      accepted_segment memory room x y z skip id (world_at s j l es) (world_at (with_cells s' after) j'' l'' es') (count, d)
      (asked_segment b r block same ∙ ap₂ (λ o k. or_else o (refused_by k)) (allowed_active skip id s.last active) (sym recorded)) (
        ap₂ (λ m k. (m, k)) (sent_length skip s.words (segment_number s x y) s.last (prediction s x y) (segment_decided skip (prediction s x y) id)) (sym meant),
        block_after (question.Segment x y z skip) (segment_decided skip (prediction s x y) id) (change.Segment d) memory s s' j j' j'' l l' l'' es es' x y z part cells after columns b
            (λ v. ap (λ m. map (λ i. spot.Cell i (changed (change.Segment m) (get_or v.cells i no_cell))) (cells_of v x y z)) meant) wide high
            (coded ∙ (λ i. symbol_steps (segment_tree skip (table_number i) s.last (foretold i)) (segment_path skip s.last (foretold i) (meant i)) (world_at s j l es)))
            block across own whole_map changes a c kept,
      )
    where
      meant : d ≡ segment_decided skip (prediction s x y) id
      meant = set ∙ ap (λ m. segment_decided skip m id) foretold

-- what an accepted segment decision makes of the map
pub map_segment : (memory : ℕ) (room : List Entry → ℕ) (w v : World stage) (t : Tile) (before after : List Cell) (x y : ℕ) (z : BlockSize) (skip : Bool) (id count d : ℕ)
    → (Ok (count, d), v) ≡ segment_step memory room x y z skip id w → d ≡ segment_decided skip (prediction w.core.state x y) id
    → w.core.state.columns ≡ t.cols → w.core.state.rows ≡ t.rows → w.core.state.cells ≡ take (t.cols * t.rows) before → v.core.state.cells ≡ take (t.cols * t.rows) after
    → t.cols * t.rows ≤ length before → tile.in_tile t.cols t.rows x y z ≡ true → SegmentSet t x y z d before after
map_segment memory room w v t before after x y z skip id count d step meant wide high was is long placed =
    cells_set (λ c. record { skip = c.skip; segment = d }) here (settled here (question.Segment x y z skip) d) t before after x y z wide high was
    (ap (λ m. (settled here (question.Segment x y z skip) m).cells) meant ∙ sym (ap (λ (u : World stage). u.core.state.cells) (segment_world memory room x y z skip id w v (count, d) step)) ∙ is)
    long placed (segment_set here x y z skip d)
  where
    e : ℕ
    e = segment_decided skip (prediction w.core.state x y) id

    here : State
    here = with_words w.core.state (written w.core.state.words (tree w.core.state (question.Segment x y z skip)) (path w.core.state (question.Segment x y z skip) e)).words
