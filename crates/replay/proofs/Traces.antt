-- A list of calls is a run of the model, so that the laws over runs hold of it.
use Rattle.std.proofs.Common.{◌≡◌, ℕ, suc, ◌*◌, ◌<◌, List, [], ◌∷◌, ◌++◌, map, length, take, sym, refl, ap, ◌∙◌, ap₂, subst, subst₂}
use mathlib.Core.Option.{Option, none, some}
use Rattle.std.proofs.Math.Seq.{take-append_seam}
use Rattle.std.proofs.lemmas.List.{length-map}
use Rattle.av1.specs.declared.refusal.Refusal.{Refusal}
use Rattle.av1.specs.declared.tile.Cell.{Cell}
use Rattle.cdf.specs.declared.entry.Entry.{Entry}
use Rattle.model.specs.declared.Question.{Question}
use Rattle.model.specs.Decisions.{State, Sound, Decision, stage, units}
use Rattle.model.specs.Runs.{World, Core, Lent, Standing, Book, Asking, ask, open_trial, take_back, keep, noted, empty_book, fresh, as_call, Accepted, answered, refusal, step, run, symbol}
use Rattle.model.specs.Worked.{start}
use Rattle.model.proofs.Staged.{stage_no_trace, stage_tells_apart}
use Rattle.av1.specs.declared.call.Call.{Call}
use Rattle.av1.specs.declared.call.Call.TheVariants as call
use Rattle.replay.specs.Calls.{Answered, asking, answer_of, call_step}
use Rattle.replay.specs.Reads.{left_by}
use Rattle.replay.specs.Runs.{ran, told_of, book_of, standing, started, Outcome, NoTraceOf, ToldApart, SymbolsDiffer, RefusedWhereAsked}
use Rattle.stage.specs.declared.state.Stage.{Stage}
use Rattle.stage.specs.View.{refused_by, units_of, world}

-- what a call tells is seen in its answer
told_again : (w : World stage) (c : Call) (o : Option Refusal) → told_of c (answer_of (answered stage w (asking c) o).answer) ≡ (answered stage w (asking c) o).answer
told_again w c (some e) = refl
told_again w (call.Partition bo z p) none = refl
told_again w (call.Skip bo z flag) none = refl
told_again w (call.Segment bo z id) none = refl
told_again w (call.Alphas u v) none = refl
told_again w (call.Vector row col p) none = refl
told_again w (call.ContextUpdate bo z sub) none = refl
told_again w call.RowStart none = refl
told_again w call.Open none = refl
told_again w (call.TakeBack depth) none = refl
told_again w (call.Keep depth) none = refl

module _ (memory : ℕ) (room : List Entry → ℕ) where
  pub ran_length : (cs : List Call) (w : World stage) → length (ran memory room cs w).answers ≡ length cs
  ran_length [] w = refl
  ran_length (c ∷ cs) w = ap suc (ran_length cs (call_step memory room c w).1)

  pub ran_world : (cs : List Call) (w : World stage) (b : Book Question Decision) → (ran memory room cs w).world ≡ (run stage memory room w b (map asking cs)).world
  unfolding call_step
  ran_world [] w b = refl
  ran_world (c ∷ cs) w b = ran_world cs (step stage memory room w (asking c)).world (noted b (asking c) (step stage memory room w (asking c)).answer)

  pub ran_book : (cs : List Call) (w : World stage) (b : Book Question Decision) → book_of b cs (ran memory room cs w).answers ≡ (run stage memory room w b (map asking cs)).book
  unfolding call_step
  ran_book [] w b = refl
  ran_book (c ∷ cs) w b =
      ap (λ t. book_of (noted b (asking c) t) cs (ran memory room cs (step stage memory room w (asking c)).world).answers) (told_again w c (refusal stage memory room w (asking c)))
      ∙ ran_book cs (step stage memory room w (asking c)).world (noted b (asking c) (step stage memory room w (asking c)).answer)

-- the standing calls by the answers are the model's
pub standing_is : (memory : ℕ) (room : List Entry → ℕ) (from : State) (lent : Lent stage) (cs : List Call) {answers : List Answered}
    → (ran memory room cs (fresh stage from lent)).answers ≡ answers
    → (run stage memory room (fresh stage from lent) (empty_book stage) (map asking cs)).book.standing ≡ standing cs answers
standing_is memory room from lent cs told =
    sym (ap (λ (b : Book Question Decision). b.standing) (ran_book memory room cs (fresh stage from lent) (empty_book stage))) ∙ ap (standing cs) told

-- each answer has the refusal of the questions
refused_seen : (w : World stage) (a : Asking stage) (o : Option Refusal) → refused_by (answer_of (answered stage w a o).answer) ≡ o
refused_seen w a (some e) = refl
refused_seen w (ask q d) none = refl
refused_seen w open_trial none = refl
refused_seen w (take_back k) none = refl
refused_seen w (keep k) none = refl

ran_refused : (memory : ℕ) (room : List Entry → ℕ) (cs : List Call) (w : World stage) → RefusedWhereAsked memory room w cs (ran memory room cs w).answers
unfolding call_step
ran_refused memory room [] w = tt
ran_refused memory room (c ∷ cs) w =
    (refused_seen w (asking c) (refusal stage memory room w (asking c)), ran_refused memory room cs (step stage memory room w (asking c)).world)

-- where a memory begins with the answers, its front is the answers
pub front_answers : (memory : ℕ) (room : List Entry → ℕ) (cs : List Call) (w : World stage) (as' rest : List Answered)
    → as' ≡ (ran memory room cs w).answers ++ rest → (ran memory room cs w).answers ≡ take (length cs) as'
front_answers memory room cs w as' rest h =
    sym (ap (take (length cs)) h ∙ ap (λ n. take n ((ran memory room cs w).answers ++ rest)) (sym (ran_length memory room cs w)) ∙ take-append_seam (ran memory room cs w).answers rest)

pub is_refused_where_asked : (memory : ℕ) (room : List Entry → ℕ) (cs : List Call) (w : World stage) {answers : List Answered}
    → (ran memory room cs w).answers ≡ answers → RefusedWhereAsked memory room w cs answers
is_refused_where_asked memory room cs w told = subst (RefusedWhereAsked memory room w cs) told (ran_refused memory room cs w)

-- calls on a stage that starts over an empty list go as over any list
pub from_start : (room : List Entry → ℕ) (from : State) (s : Stage) (cells : List Cell) (lent : Lent stage) (es : List Entry) (cs : List Call) {n : ℕ}
    → length cells ≡ n → world s cells lent [] ≡ fresh stage from lent
    → ran (length cells) room cs (world s cells lent es) ≡ ran n room cs (started from lent es)
from_start room from s cells lent es cs long h =
    ap₂ (λ k (w : World stage). ran k room cs (record { core = record { state = w.core.state; entries = es }; small = w.small; large = w.large; spots = w.spots; marks = w.marks })) long h

-- a stage at its start has columns × rows units
pub start_units : (columns rows last : ℕ) (s : Stage) (cells : List Cell) (lent : Lent stage) → world s cells lent [] ≡ fresh stage (start columns rows last) lent
    → units_of s ≡ columns * rows
unfolding start
start_units columns rows last s cells lent h = ap (λ (w : World stage). units w.core.state) h

-- what holds of a list of calls over a sink that was empty
module _ (memory : ℕ) (room : List Entry → ℕ) (from : State) (lent : Lent stage) (es : List Entry) (cs : List Call) {answers : List Answered} {end : World stage}
    (answered : (ran memory room cs (started from lent es)).answers ≡ answers) (ended : (ran memory room cs (started from lent es)).world ≡ end) (empty : es ≡ []) where
  as_told : (ran memory room cs (fresh stage from lent)).answers ≡ answers
  as_told = ap (λ l. (ran memory room cs (started from lent l)).answers) (sym empty) ∙ answered

  left : (ran memory room cs (fresh stage from lent)).world ≡ end
  left = ap (λ l. (ran memory room cs (started from lent l)).world) (sym empty) ∙ ended

  ends : (run stage memory room (fresh stage from lent) (empty_book stage) (map asking cs)).world ≡ end
  ends = sym (ran_world memory room cs (fresh stage from lent) (empty_book stage)) ∙ left

  pub leaves_no_trace : Sound from → NoTraceOf room from cs answers end.core
  leaves_no_trace sound memory' lent' mapped =
      subst₂
      (λ (xs : List (Standing stage)) (k : Core stage).
      Accepted stage memory' room (fresh stage from lent') (map (as_call stage) xs)
      × ((run stage memory' room (fresh stage from lent') (empty_book stage) (map (as_call stage) xs)).world.core ≡ k))
      (standing_is memory room from lent cs as_told) (ap (λ (w : World stage). w.core) ends)
      (stage_no_trace memory memory' room from lent lent' (map asking cs) sound mapped)

  pub has_outcome : Outcome from cs answers end.core.entries
  has_outcome = record { memory = memory; room = room; lent = lent; answered = as_told; left = ap (λ (w : World stage). w.core.entries) left }

  pub outcome_state : left_by has_outcome ≡ end.core.state
  unfolding has_outcome
  outcome_state = ap (λ (w : World stage). w.core.state) left

  pub is_told_apart : Sound from → ToldApart from cs answers end.core.entries
  is_told_apart sound calls' answers' entries' o same more more' q d e one two differ =
      let p = stage_tells_apart memory o.memory room o.room from lent o.lent (map asking cs) (map asking calls') same q d e more more' sound
      (standing_is memory room from lent cs as_told ∙ one) (standing_is o.memory o.room from o.lent calls' o.answered ∙ two) differ in
      subst₂ SymbolsDiffer (ap (λ (w : World stage). w.core.entries) ends)
      (sym (ap (λ (w : World stage). w.core.entries) (ran_world o.memory o.room calls' (fresh stage from o.lent) (empty_book stage))) ∙ o.left)
      (p.0, subst (λ n. p.0 < n) (length-map _ (symbol stage)) p.1, subst (λ n. p.0 < n) (length-map _ (symbol stage)) p.2, p.3)
