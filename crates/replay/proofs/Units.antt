-- No call and no read changes how many cells the map has.
use Rattle.std.proofs.Common.{◌≡◌, ℕ, List, [], ◌∷◌, drop, Err, Result, refl, ap, ◌∙◌}
use mathlib.Core.Option.{Option, none, some}
use Rattle.av1.specs.declared.refusal.Refusal.{Refusal}
use Rattle.cdf.specs.declared.entry.Entry.{Entry}
use Rattle.journal.specs.declared.Mark.{Mark}
use Rattle.journal.specs.declared.Spot.{Spot}
use Rattle.journal.specs.declared.Spot.TheVariants as spot
use Rattle.model.specs.declared.Question.{Question}
use Rattle.model.specs.Decisions.{State, Decision, stage, units, decided, put_back, put_spot, put_spots, spots, tree, with_words}
use Rattle.model.specs.Reading.{read_step, read_told}
use Rattle.model.specs.Tree.{Answer, read, read_as, faulty}
use Rattle.model.specs.Runs.{World, Asking, Standing, Stop, ask, open_trial, take_back, keep, answered, done_call, at_mark, kept_marks, read_asked, trail_of, turned, above, refusal}
use Rattle.model.proofs.Trails.{unwound_sound}
use Rattle.model.proofs.Staged.{stage_laws}
use Rattle.av1.specs.declared.call.Call.{Call}
use Rattle.replay.specs.Calls.{Answered, asking, call_step}
use Rattle.replay.specs.Reads.{call_read, with_question}

spot_units : (s : State) (r : Spot) → units (put_spot s r) ≡ units s
spot_units s (spot.Cell i c) = refl
spot_units s (spot.Above i b) = refl
spot_units s (spot.Left i b) = refl

back_units : (w : World stage) (ms : List Mark) → units (at_mark stage w ms).core.state ≡ units w.core.state
back_units w [] = refl
back_units w (m ∷ ms) =
    let t = above stage (trail_of stage w) m in
    let as_many : State → Type 0 = λ s. units s ≡ units w.core.state in
    unwound_sound as_many put_spot (λ s r h. spot_units s r ∙ h) _ t.spots
    (unwound_sound as_many put_back (λ s r h. h) _ t.large (unwound_sound as_many put_back (λ s r h. h) w.core.state t.small refl))

kept_units : (w : World stage) (ms : List Mark) → units (kept_marks stage w ms).core.state ≡ units w.core.state
kept_units w [] = refl
kept_units w (m ∷ []) = refl
kept_units w (m ∷ n ∷ ms) = refl

done_units : (w : World stage) (c : Asking stage) → units (done_call stage w c).core.state ≡ units w.core.state
done_units w (ask q d) = stage_laws.units_next w.core.state (record { question = q; decision = decided w.core.state q d })
done_units w open_trial = refl
done_units w (take_back k) = back_units w w.marks
done_units w (keep k) = kept_units w w.marks

answered_units : (w : World stage) (c : Asking stage) (o : Option Refusal) → units (answered stage w c o).world.core.state ≡ units w.core.state
answered_units w c none = done_units w c
answered_units w c (some e) = refl

pub step_units : (memory : ℕ) (room : List Entry → ℕ) (c : Call) (w : World stage) {a : Answered} {v : World stage} → ◌≡◌ {A = Answered × World stage} (a, v) (call_step memory room c w)
    → units v.core.state ≡ units w.core.state
unfolding call_step
step_units memory room c w h = ap (λ (p : Answered × World stage). units p.1.core.state) h ∙ answered_units w (asking c) (refusal stage memory room w (asking c))

put_units : (ps : List Spot) (s : State) → units (put_spots s ps) ≡ units s
put_units [] s = refl
put_units (r ∷ rs) s = put_units rs (put_spot s r) ∙ spot_units s r

-- no read does
pub read_units : (memory : ℕ) (es : List Entry) (q : Question) (s : State) (p : ℕ) {r : Result (Standing stage) Stop} {t : State} {k : ℕ}
    → ◌≡◌ {A = Result (Standing stage) Stop × State × ℕ} (r, t, k) (call_read memory es q s p) → units t ≡ units s
unfolding call_read read_step
read_units memory es q s p h =
    ap (λ (v : Result (Standing stage) Stop × State × ℕ). units v.1) h
    ∙ go (read_asked stage memory s q) (read s.words (tree s q) p 0 p (drop p es))
  where
    go : (o : Option Refusal) (a : Answer (Decision q)) → units (with_question q (elim o [ some n ↦ (Err (turned n), s, p) | none ↦ read_told q s p a ])).1 ≡ units s
    go (some n) a = refl
    go none (read_as d w rest next) = put_units (spots (with_words s w) q d) (with_words s w)
    go none (faulty f) = refl
