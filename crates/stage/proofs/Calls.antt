-- The questions of a call and its outcome, as the model has them.
use Rattle.journal.specs.declared.Mark.{Mark}
use Rattle.std.proofs.lemmas.List.{length-reverse}
use Rattle.std.proofs.Common.{◌≡◌, ℕ, zero, suc, ◌+◌, ◌*◌, Bool, true, false, cond, ◌&&◌, ltb, leb, List, [], ◌∷◌, map, length, Ok, Err, Result, sym, refl, ap, ◌∙◌, ap₂, suc-mul, arith, le→leb, lt→ltb}
use mathlib.Core.Option.{Option, none, some}
use Rattle.std.proofs.lemmas.List.{length-append, length-map}
use Rattle.av1.specs.declared.refusal.Refusal.{Refusal}
use Rattle.av1.specs.declared.refusal.Refusal.TheVariants as no
use Rattle.av1.specs.declared.size.BlockSize.{BlockSize}
use Rattle.av1.specs.declared.tile.Block.{Block}
use Rattle.av1.specs.Sizes.{no_side_above}
use Rattle.av1.specs.Tiles.{block_at, block_asked}
use Rattle.av1.specs.Tiles as tile
use Rattle.cdf.specs.declared.entry.Entry.{Entry}
use Rattle.cdf.specs.Lists.{from}
use Rattle.cdf.proofs.Booleans.{T→true}
use Rattle.journal.specs.declared.Spot.{Spot}
use Rattle.model.specs.declared.Question.{Question}
use Rattle.model.specs.declared.Question.TheVariants as question
use Rattle.model.specs.Calls.{answer_by, decision_step, segment_step, symbol_steps, spot_steps}
use Rattle.model.specs.Decisions.{State, Decision, stage, with_words, tree, path, decided, spots, trail, old_spots, put_spot, block_cells, cells_of, skip_spot, brings_map, placed, allowed, asked_open}
use Rattle.model.specs.Runs.{World, Lent, ask, refusal, answered, done_call, sent, or_else, unless, map_asked_if, open_questions, lanes_asked}
use Rattle.model.specs.Tree.{written}
use Rattle.model.proofs.Stepping.{by_steps}
use Rattle.stage.specs.declared.state.Journal.{Journal}
use Rattle.stage.specs.Questions.{need, lanes_fit, record_asked, area}
use Rattle.stage.specs.View.{marks_of, world_at, refused_by}

module _ (memory : ℕ) (room : List Entry → ℕ) where
  -- what a call answers where it is not refused, and the world after it
  abbrev told_step : {A : Type 0} → A → (q : Question) → Decision q → World stage → Result A Refusal × World stage
  told_step a q d w = (answer_by (refusal stage memory room w (ask q d)) a, (answered stage w (ask q d) (refusal stage memory room w (ask q d))).world)

  -- a refused call answers the refusal, and the world stays
  pub refused_told : {A : Type 0} (a : A) (q : Question) (d : Decision q) (w : World stage) (e : Refusal) → refusal stage memory room w (ask q d) ≡ some e → (Err e, w) ≡ told_step a q d w
  refused_told a q d w e h = sym (ap (λ o. (answer_by o a, (answered stage w (ask q d) o).world)) h)

  -- the world of an accepted call is that after its symbols and its spots
  pub accepted_told : {A : Type 0} (a b : A) (q : Question) (d : Decision q) (w v : World stage) → refusal stage memory room w (ask q d) ≡ none → a ≡ b
      → (let s : State = w.core.state in
      let e : Decision q = decided s q d in
      v ≡ spot_steps (spots (with_words s (written s.words (tree s q) (path s q e)).words) q e) (symbol_steps (tree s q) (path s q e) w))
      → (Ok b, v) ≡ told_step a q d w
  accepted_told a b q d w v h same after =
      ap₂ (λ k u. (Ok k, u)) (sym same) (after ∙ sym (by_steps w q d))
      ∙ sym (ap (λ o. (answer_by o a, (answered stage w (ask q d) o).world)) h)

  told_world : {A : Type 0} (a b : A) (q : Question) (d : Decision q) (w v : World stage) → (Ok b, v) ≡ told_step a q d w → v ≡ done_call stage w (ask q d)
  told_world {A} a b q d w v h = go (refusal stage memory room w (ask q d)) h
    where
      go : (o : Option Refusal) → ◌≡◌ {A = Result A Refusal × World stage} (Ok b, v) (answer_by o a, (answered stage w (ask q d) o).world) → v ≡ done_call stage w (ask q d)
      go none k = ap (λ p. p.1) k
      go (some e) k = absurd (let r : ◌≡◌ {A = Result A Refusal} (Ok b) (Err e) = ap (λ p. p.0) k in let z : ◌≡◌ {A = ℕ} 0 1 = cc in let y : ⊥ = omega arith in y)

  -- a decision that answers how many entries it wrote
  abbrev sent_by : (q : Question) → Decision q → World stage → ℕ
  sent_by q d w = length (sent stage w.core.state q (decided w.core.state q d)).entries

  pub refused_step : (q : Question) (d : Decision q) (w : World stage) (e : Refusal) → refusal stage memory room w (ask q d) ≡ some e → (Err e, w) ≡ decision_step memory room q d w
  unfolding decision_step
  refused_step q d w e h = refused_told (sent_by q d w) q d w e h

  pub accepted_step : (q : Question) (d : Decision q) (w v : World stage) (n : ℕ) → refusal stage memory room w (ask q d) ≡ none
      → length (sent stage w.core.state q (decided w.core.state q d)).entries ≡ n
      → (let s : State = w.core.state in
      let e : Decision q = decided s q d in
      v ≡ spot_steps (spots (with_words s (written s.words (tree s q) (path s q e)).words) q e) (symbol_steps (tree s q) (path s q e) w))
      → (Ok n, v) ≡ decision_step memory room q d w
  unfolding decision_step
  accepted_step q d w v n h count after = accepted_told (sent_by q d w) n q d w v h count after

  pub accepted_world : (q : Question) (d : Decision q) (w v : World stage) (n : ℕ) → (Ok n, v) ≡ decision_step memory room q d w → v ≡ done_call stage w (ask q d)
  unfolding decision_step
  accepted_world q d w v n h = told_world (sent_by q d w) n q d w v h

  -- a segment decision answers its number too
  abbrev segment_told : (x y : ℕ) → BlockSize → Bool → ℕ → World stage → ℕ × ℕ
  segment_told x y z skip id w = (sent_by (question.Segment x y z skip) id w, decided w.core.state (question.Segment x y z skip) id)

  pub refused_segment : (x y : ℕ) (z : BlockSize) (skip : Bool) (id : ℕ) (w : World stage) (e : Refusal) → refusal stage memory room w (ask (question.Segment x y z skip) id) ≡ some e
      → (Err e, w) ≡ segment_step memory room x y z skip id w
  unfolding segment_step
  refused_segment x y z skip id w e h = refused_told (segment_told x y z skip id w) (question.Segment x y z skip) id w e h

  pub accepted_segment : (x y : ℕ) (z : BlockSize) (skip : Bool) (id : ℕ) (w v : World stage) (a : ℕ × ℕ) → refusal stage memory room w (ask (question.Segment x y z skip) id) ≡ none
      → (let s : State = w.core.state in
      let q : Question = question.Segment x y z skip in
      let e : ℕ = decided s (question.Segment x y z skip) id in
      ((length (sent stage s q e).entries, e) ≡ a)
      × (v ≡ spot_steps (spots (with_words s (written s.words (tree s q) (path s q e)).words) q e) (symbol_steps (tree s q) (path s q e) w)))
      → (Ok a, v) ≡ segment_step memory room x y z skip id w
  unfolding segment_step
  accepted_segment x y z skip id w v a h after = accepted_told (segment_told x y z skip id w) a (question.Segment x y z skip) id w v h after.0 after.1

  pub segment_world : (x y : ℕ) (z : BlockSize) (skip : Bool) (id : ℕ) (w v : World stage) (a : ℕ × ℕ) → (Ok a, v) ≡ segment_step memory room x y z skip id w
      → v ≡ done_call stage w (ask (question.Segment x y z skip) id)
  unfolding segment_step
  segment_world x y z skip id w v a h = told_world (segment_told x y z skip id w) a (question.Segment x y z skip) id w v h

-- the questions on room and lanes
refused_cond : (a b : Bool) (e f : Refusal) → or_else (unless a e) (unless b f) ≡ refused_by (cond a (cond b (Ok (tt {0})) (Err f)) (Err e))
refused_cond true true e f = refl
refused_cond true false e f = refl
refused_cond false b e f = refl

open_asked : (s : State) (j : Journal) (l : Lent stage) (es : List Entry) (q : Question) (d : Decision q) (a b c : ℕ) → asked_open q ≡ none
    → length (trail s q d).small ≡ a → length (trail s q d).large ≡ b → length (trail s q d).spots ≡ c
    → open_questions stage (world_at s j l es) q d (marks_of j) ≡ unless (lanes_fit j l (need a b c)) no.LogRoom
open_asked s j l es q d a b c quiet small large spots' = go (marks_of j) ∙ ap (λ n. unless (cond (ltb 0 n) fit true) no.LogRoom) (length-reverse j.marks.items)
  where
    fit : Bool
    fit = leb (j.used.small + a) (length l.small) && (leb (j.used.large + b) (length l.large) && leb (j.used.spots + c) (length l.spots))

    asked : lanes_asked stage (world_at s j l es) (trail s q d) ≡ unless fit no.LogRoom
    asked =
        λ i. unless (leb (j.used.small + small i) (length l.small) && (leb (j.used.large + large i) (length l.large) && leb (j.used.spots + spots' i) (length l.spots))) no.LogRoom

    go : (ms : List Mark) → open_questions stage (world_at s j l es) q d ms ≡ unless (cond (ltb 0 (length ms)) fit true) no.LogRoom
    go [] = refl
    go (m ∷ ms) =
        ap (λ o. or_else o (lanes_asked stage (world_at s j l es) (trail s q d))) quiet ∙ asked
        ∙ sym (ap (λ t. unless (cond t fit true) no.LogRoom) (T→true (ltb 0 (length (m ∷ ms))) (lt→ltb 0 (length (m ∷ ms)) (omega arith))))

pub record_refusal : (s : State) (j : Journal) (l : Lent stage) (es : List Entry) (q : Question) (d : Decision q) (r n a b c : ℕ) → asked_open q ≡ none
    → length (path s q d) ≡ n
    → length (trail s q d).small ≡ a → length (trail s q d).large ≡ b → length (trail s q d).spots ≡ c
    → or_else (unless (leb (length (path s q d)) r) no.Room) (open_questions stage (world_at s j l es) q d (marks_of j))
    ≡ refused_by (record_asked j l r n (need a b c))
record_refusal s j l es q d r n a b c quiet entries small large spots' =
    ap₂ (λ k o. or_else (unless (leb k r) no.Room) o) entries (open_asked s j l es q d a b c quiet small large spots')
    ∙ refused_cond (leb n r) (lanes_fit j l (need a b c)) no.Room no.LogRoom

-- all questions of a decision that brings no map
pub mapless_refusal : (memory : ℕ) (room : List Entry → ℕ) (s : State) (j : Journal) (l : Lent stage) (es : List Entry) (q : Question) (d : Decision q) (n a b c : ℕ)
    → brings_map q ≡ false → asked_open q ≡ none
    → length (path s q (decided s q d)) ≡ n → length (trail s q (decided s q d)).small ≡ a → length (trail s q (decided s q d)).large ≡ b → length (trail s q (decided s q d)).spots ≡ c
    → refusal stage memory room (world_at s j l es) (ask q d) ≡ or_else (placed s q) (or_else (allowed s q d) (refused_by (record_asked j l (room es) n (need a b c))))
mapless_refusal memory room s j l es q d n a b c maps quiet entries small large spots' =
    ap (λ m. or_else (map_asked_if stage m memory s) (or_else (or_else (placed s q) (or_else (allowed s q d) few)) trials)) maps
    ∙ regroup (placed s q) (allowed s q d) few trials
    ∙ ap (λ o. or_else (placed s q) (or_else (allowed s q d) o)) (record_refusal s j l es q (decided s q d) (room es) n a b c quiet entries small large spots')
  where
    few : Option Refusal
    few = unless (leb (length (path s q (decided s q d))) (room es)) no.Room

    trials : Option Refusal
    trials = open_questions stage (world_at s j l es) q (decided s q d) (marks_of j)

    regroup : (b c d e : Option Refusal) → or_else (or_else b (or_else c d)) e ≡ or_else b (or_else c (or_else d e))
    regroup none none d e = refl
    regroup none (some f) d e = refl
    regroup (some f) c d e = refl

-- where there are no entries, there is room
pub no_entries : (r : ℕ) (o : Option Refusal) → or_else (unless (leb 0 r) no.Room) o ≡ o
no_entries r o = ap (λ b. or_else (unless b no.Room) o) (T→true (leb 0 r) (le→leb 0 r (omega arith)))

-- how many spots a block has
pub length_olds : (ps : List Spot) (s : State) → length (old_spots s ps) ≡ length ps
length_olds [] s = refl
length_olds (p ∷ ps) s = ap suc (length_olds ps (put_spot s p))

pub length_from : (n i : ℕ) → length (from i n) ≡ n
length_from zero i = refl
length_from (suc n) i = ap suc (length_from n (suc i))

length_block : (columns wide n i : ℕ) → length (block_cells columns wide i n) ≡ n * wide
length_block columns wide zero i = omega arith
length_block columns wide (suc n) i =
    length-append (from i wide) (block_cells columns wide (i + columns) n)
    ∙ ap₂ (λ a b. a + b) (length_from wide i) (length_block columns wide n (i + columns)) ∙ more
  where
    more : wide + n * wide ≡ suc n * wide
    more = let e : suc n * wide ≡ n * wide + wide = suc-mul n wide in omega arith

pub block_spots : (s v : State) (x y : ℕ) (z : BlockSize) (f : ℕ → Spot) → length (old_spots v (map f (cells_of s x y z))) ≡ area (block_at s.columns s.rows x y z)
unfolding cells_of
block_spots s v x y z f =
    length_olds (map f (cells_of s x y z)) v ∙ length-map (cells_of s x y z) f
    ∙ length_block s.columns (block_at s.columns s.rows x y z).width (block_at s.columns s.rows x y z).height (y * s.columns + x)

-- the questions of a decision that sets the cells of its block
pub block_refusal : (columns rows memory x y : ℕ) (z : BlockSize) (longest : ℕ) (o : Option Refusal)
    → or_else (unless (leb (columns * rows) memory) no.MapMemory)
    (or_else (or_else (unless (no_side_above longest z) no.BlockSize) (unless (tile.in_tile columns rows x y z) no.Position)) o)
    ≡ or_else (refused_by (block_asked columns rows memory longest x y z)) o
block_refusal columns rows memory x y z longest o = go (leb (columns * rows) memory) (no_side_above longest z) (tile.in_tile columns rows x y z)
  where
    b : Block
    b = block_at columns rows x y z

    go : (a c d : Bool)
        → or_else (unless a no.MapMemory) (or_else (or_else (unless c no.BlockSize) (unless d no.Position)) o)
        ≡ or_else (refused_by (cond a (cond c (cond d (Ok b) (Err no.Position)) (Err no.BlockSize)) (Err no.MapMemory))) o
    go true true true = refl
    go true true false = refl
    go true false d = refl
    go false c d = refl

-- all questions of a decision that sets the cells of its block
pub set_refusal : (memory : ℕ) (room : List Entry → ℕ) (s : State) (j : Journal) (l : Lent stage) (es : List Entry) (x y : ℕ) (z : BlockSize) (q : Question) (d : Decision q) (n a b : ℕ)
    → brings_map q ≡ true → placed s q ≡ or_else (unless (no_side_above 64 z) no.BlockSize) (unless (tile.in_tile s.columns s.rows x y z) no.Position) → asked_open q ≡ none
    → length (path s q (decided s q d)) ≡ n → length (trail s q (decided s q d)).small ≡ a → length (trail s q (decided s q d)).large ≡ b
    → length (trail s q (decided s q d)).spots ≡ area (block_at s.columns s.rows x y z)
    → refusal stage memory room (world_at s j l es) (ask q d)
    ≡ or_else (refused_by (block_asked s.columns s.rows memory 64 x y z))
    (or_else (allowed s q d) (refused_by (record_asked j l (room es) n (need a b (area (block_at s.columns s.rows x y z))))))
set_refusal memory room s j l es x y z q d n a b maps there quiet entries small large spots' =
    ap₂ (λ m p. or_else (map_asked_if stage m memory s) (or_else (or_else p (or_else (allowed s q d) few)) trials)) maps there
    ∙ regroup (unless (leb (s.columns * s.rows) memory) no.MapMemory)
    (or_else (unless (no_side_above 64 z) no.BlockSize) (unless (tile.in_tile s.columns s.rows x y z) no.Position))
    (allowed s q d) few trials
    ∙ block_refusal s.columns s.rows memory x y z 64 (or_else (allowed s q d) (or_else few trials))
    ∙ ap (λ o. or_else (refused_by (block_asked s.columns s.rows memory 64 x y z)) (or_else (allowed s q d) o))
    (record_refusal s j l es q (decided s q d) (room es) n a b (area (block_at s.columns s.rows x y z)) quiet entries small large spots')
  where
    few : Option Refusal
    few = unless (leb (length (path s q (decided s q d))) (room es)) no.Room

    trials : Option Refusal
    trials = open_questions stage (world_at s j l es) q (decided s q d) (marks_of j)

    regroup : (a b c d e : Option Refusal) → or_else a (or_else (or_else b (or_else c d)) e) ≡ or_else a (or_else b (or_else c (or_else d e)))
    regroup none none none d e = refl
    regroup none none (some f) d e = refl
    regroup none (some f) c d e = refl
    regroup (some f) b c d e = refl

pub skip_refusal : (memory : ℕ) (room : List Entry → ℕ) (s : State) (j : Journal) (l : Lent stage) (es : List Entry) (x y : ℕ) (z : BlockSize) (flag : Bool)
    → refusal stage memory room (world_at s j l es) (ask (question.Skip x y z) flag)
    ≡ or_else (refused_by (block_asked s.columns s.rows memory 64 x y z)) (refused_by (record_asked j l (room es) 1 (need 1 0 (area (block_at s.columns s.rows x y z)))))
skip_refusal memory room s j l es x y z flag =
    set_refusal memory room s j l es x y z (question.Skip x y z) flag 1 1 0 refl refl refl refl refl refl (block_spots v v x y z (skip_spot v flag))
  where
    v : State
    v = with_words s (written s.words (tree s (question.Skip x y z)) (path s (question.Skip x y z) flag)).words

-- an accepted block is the one at the position
pub asked_block : (columns rows memory longest x y : ℕ) (z : BlockSize) (b : Block) → Ok b ≡ block_asked columns rows memory longest x y z
    → (tile.in_tile columns rows x y z ≡ true) × (b ≡ block_at columns rows x y z)
asked_block columns rows memory longest x y z b h = go (leb (columns * rows) memory) (no_side_above longest z) (tile.in_tile columns rows x y z) h
  where
    at : Block
    at = block_at columns rows x y z

    go : (a c d : Bool) → ◌≡◌ {A = Result Block Refusal} (Ok b) (cond a (cond c (cond d (Ok at) (Err no.Position)) (Err no.BlockSize)) (Err no.MapMemory)) → (d ≡ true) × (b ≡ at)
    go true true true k = (refl, cc)
    go true true false k = absurd (let z : ◌≡◌ {A = ℕ} 0 1 = cc in let y : ⊥ = omega arith in y)
    go true false d k = absurd (let z : ◌≡◌ {A = ℕ} 0 1 = cc in let y : ⊥ = omega arith in y)
    go false c d k = absurd (let z : ◌≡◌ {A = ℕ} 0 1 = cc in let y : ⊥ = omega arith in y)
