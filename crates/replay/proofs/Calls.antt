-- A call of the stage is the model's step of that call.
use Rattle.std.proofs.Common.{◌≡◌, ℕ, List, Ok, Err, Result, sym, refl, ap, ◌∙◌}
use mathlib.Core.Option.{Option, none, some}
use Rattle.std.specs.Result.{MatchResult, IsOkAnd, result_map_both}
use Rattle.av1.specs.declared.refusal.Refusal.{Refusal}
use Rattle.cdf.specs.declared.entry.Entry.{Entry}
use Rattle.model.specs.Calls.{answer_by}
use Rattle.model.specs.Decisions.{stage}
use Rattle.model.specs.Runs.{World, Asking, refusal, answered, step}
use Rattle.av1.specs.declared.call.Answer.{Answer}
use Rattle.av1.specs.declared.call.Answer.TheVariants as told
use Rattle.av1.specs.declared.call.Call.{Call}
use Rattle.replay.specs.Calls.{Answered, asking, answer_of, call_step}

-- a result, seen as an answer
abbrev seen : {A : Type 0} → (A → Answer) → Result A Refusal → Answered
seen view r = result_map_both view (λ e. e) r

-- what `map` promises, as an equation
pub mapped : {A B E : Type 0} (view : A → B) (r : Result A E) (b : Result B E) {P : A → B → Type 0}
    → MatchResult r (λ x. IsOkAnd b (P x)) (λ e. b ≡ Err e) → ((x : A) (y : B) → P x y → y ≡ view x) → b ≡ result_map_both view (λ e. e) r
mapped view (Ok x) (Ok y) h same = ap Ok (same x y h)
mapped view (Ok x) (Err e) h same = elim h [ ]
mapped view (Err e) b h same = h

-- what the model's call answers, seen so, is what it tells
told_so : {A : Type 0} (view : A → Answer) (a : A) (w : World stage) (c : Asking stage)
    → Ok (view a) ≡ answer_of (answered stage w c none).answer → (o : Option Refusal)
    → seen view (answer_by o a) ≡ answer_of (answered stage w c o).answer
told_so view a w c same none = same
told_so view a w c same (some e) = refl

-- the step of a call that is made, and whose result is mapped to an answer
pub call_made : {A : Type 0} (view : A → Answer) {a : A} (memory : ℕ) (room : List Entry → ℕ) (w : World stage)
    {v : World stage} {c d : Call} {r : Result A Refusal} {b : Answered} {P : A → Answer → Type 0}
    → c ≡ d → MatchResult r (λ x. IsOkAnd b (P x)) (λ e. b ≡ Err e) → ((x : A) (y : Answer) → P x y → y ≡ view x)
    → ◌≡◌ {A = Result A Refusal × World stage} (r, v) (answer_by (refusal stage memory room w (asking d)) a, (step stage memory room w (asking d)).world)
    → Ok (view a) ≡ answer_of (answered stage w (asking d) none).answer
    → ◌≡◌ {A = Answered × World stage} (b, v) (call_step memory room c w)
unfolding call_step
call_made {A} view {a} memory room w {v} {c} {d} {r} {b} same shown by made answers =
    ap (λ (b : Answered). (b, v)) (mapped view r b shown by)
    ∙ ap (λ (p : Result A Refusal × World stage). (seen view p.0, p.1)) made
    ∙ ap (λ (b : Answered). (b, (step stage memory room w (asking d)).world)) (told_so view a w (asking d) answers (refusal stage memory room w (asking d)))
    ∙ sym (ap (λ (c : Call). call_step memory room c w) same)

-- the views of a segment with its number, and of a call that has none
abbrev pub numbered : ℕ × ℕ → Answer
numbered a = told.Segmented a.0 a.1

abbrev pub done : Unit {0} → Answer
done u = told.Done
