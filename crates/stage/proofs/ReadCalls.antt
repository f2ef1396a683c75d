-- The calls of a reader, which reads as the model does.
use Rattle.std.proofs.Common.{◌≡◌, ℕ, leb, List, [], ◌∷◌, length, drop, Ok, Err, Result, sym, refl, ap, ◌∙◌, ap₂}
use mathlib.Core.Option.{Option, none, some}
use Rattle.std.proofs.lemmas.List.{length-reverse}
use Rattle.av1.specs.declared.refusal.Refusal.{Refusal}
use Rattle.av1.specs.declared.refusal.Refusal.TheVariants as no
use Rattle.av1.specs.declared.size.BlockSize.{BlockSize}
use Rattle.cdf.specs.declared.entry.Entry.{Entry}
use Rattle.journal.specs.declared.Mark.{Mark}
use Rattle.model.proofs.Standing.{or_else_first}
use Rattle.model.specs.declared.Question.{Question}
use Rattle.model.specs.declared.Question.TheVariants as question
use Rattle.model.specs.Calls.{answer_by, row_step, update_step}
use Rattle.model.specs.Decisions.{Decision, State, placed, stage, trail}
use Rattle.model.specs.Reading.{read_step, read_told}
use Rattle.model.specs.Runs.{Lent, Stop, TrailOf, World, answered, ask, log_open, open_questions, or_else, refusal, turned, unless}
use Rattle.model.specs.Tree.{done, read}
use Rattle.stage.specs.declared.state.Journal.{Journal}
use Rattle.stage.specs.Faults.{turned_by}
use Rattle.stage.specs.View.{marks_of, open_trials}
use Rattle.stage.proofs.Calls.{no_entries}

-- a reader lends no lane
abbrev pub no_lanes : Lent stage
no_lanes = record { small = []; large = []; spots = [] }

-- no mark, no trial
pub none_marked : (j : Journal) → marks_of j ≡ [] → open_trials j ≡ 0
none_marked j e = sym (length-reverse j.marks.items) ∙ ap length e

-- a stage on which no trial is open refuses an update as a reader does
free_refusal : (memory : ℕ) (rooms : List Entry → ℕ) (w : World stage) (q : Question) (d : Decision q) (o : Option Refusal) → w.marks ≡ []
    → or_else o (unless (leb 0 (rooms w.core.entries)) no.Room) ≡ o
    → or_else (or_else o (unless (leb 0 (rooms w.core.entries)) no.Room)) (open_questions stage w q d w.marks) ≡ o
free_refusal memory rooms w q d o closed room =
    ap₂ or_else room (ap (open_questions stage w q d) closed) ∙ last o
  where
    last : (o : Option Refusal) → or_else o none ≡ o
    last none = refl
    last (some n) = refl

room_left : (r : ℕ) (o : Option Refusal) → or_else o (unless (leb 0 r) no.Room) ≡ o
room_left r none = or_else_first (unless (leb 0 r) no.Room) none (no_entries r none)
room_left r (some n) = refl

-- an update's world, with the marks of before
marks_stay : (w : World stage) (t : TrailOf stage) (ms : List Mark) → (log_open stage w t ms).marks ≡ w.marks
marks_stay w t [] = refl
marks_stay w t (m ∷ ms) = refl

module _ (memory : ℕ) (rooms : List Entry → ℕ) (w : World stage) (closed : w.marks ≡ []) where
  pub update_read : (es : List Entry) (p x y : ℕ) (z sub : BlockSize) (r : Result (Unit {0}) Refusal) (v : World stage) → (r, v) ≡ update_step memory rooms x y z sub w
      → (turned_by r, v.core.state, p) ≡ read_step memory es (question.ContextUpdate x y z sub) w.core.state p
  unfolding update_step read_step
  update_read es p x y z sub r v h =
      ap (λ k. (turned_by k.0, k.1.core.state, p)) h
      ∙ ap (λ o. (turned_by (answer_by o tt), (answered stage w (ask (question.ContextUpdate x y z sub) tt) o).world.core.state, p))
      (free_refusal memory rooms w (question.ContextUpdate x y z sub) tt (placed w.core.state (question.ContextUpdate x y z sub)) closed (room_left (rooms w.core.entries) (placed w.core.state (question.ContextUpdate x y z sub))))
      ∙ go (placed w.core.state (question.ContextUpdate x y z sub))
    where
      go : (o : Option Refusal)
          → ◌≡◌ {A = Result (Unit {0}) Stop × State × ℕ} (turned_by (answer_by o tt), (answered stage w (ask (question.ContextUpdate x y z sub) tt) o).world.core.state, p)
          (elim o [
            | some n ↦ (Err (turned n), w.core.state, p)
            | none ↦ read_told (question.ContextUpdate x y z sub) w.core.state p (read w.core.state.words (done tt) p 0 p (drop p es))
          ])
      go none = refl
      go (some n) = refl

  pub row_read : (es : List Entry) (p : ℕ) (r : Result (Unit {0}) Refusal) (v : World stage) → (r, v) ≡ row_step memory rooms w
      → (Ok tt, v.core.state, p) ≡ read_step memory es question.RowStart w.core.state p
  unfolding row_step read_step
  row_read es p r v h =
      ap (λ k. (Ok tt, k.1.core.state, p)) h
      ∙ ap (λ o. (Ok tt, (answered stage w (ask question.RowStart tt) o).world.core.state, p))
      (free_refusal memory rooms w question.RowStart tt none closed (room_left (rooms w.core.entries) none))

  -- and no trial is open then
  pub update_closed : (x y : ℕ) (z sub : BlockSize) (r : Result (Unit {0}) Refusal) (v : World stage) → (r, v) ≡ update_step memory rooms x y z sub w → v.marks ≡ []
  unfolding update_step
  update_closed x y z sub r v h = ap (λ k. k.1.marks) h ∙ go (refusal stage memory rooms w (ask (question.ContextUpdate x y z sub) tt)) ∙ closed
    where
      go : (o : Option Refusal) → (answered stage w (ask (question.ContextUpdate x y z sub) tt) o).world.marks ≡ w.marks
      go none = marks_stay w (trail w.core.state (question.ContextUpdate x y z sub) tt) w.marks
      go (some n) = refl

  pub row_closed : (r : Result (Unit {0}) Refusal) (v : World stage) → (r, v) ≡ row_step memory rooms w → v.marks ≡ []
  unfolding row_step
  row_closed r v h = ap (λ k. k.1.marks) h ∙ go (refusal stage memory rooms w (ask question.RowStart tt)) ∙ closed
    where
      go : (o : Option Refusal) → (answered stage w (ask question.RowStart tt) o).world.marks ≡ w.marks
      go none = marks_stay w (trail w.core.state question.RowStart tt) w.marks
      go (some n) = refl
