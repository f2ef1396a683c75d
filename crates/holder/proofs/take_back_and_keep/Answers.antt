use Rattle.std.proofs.Common.{◌≡◌, ℕ, true, List, [], ◌∷◌, length, is_ok, Ok, Err, Result, refl, sym, ap, ◌∙◌}
use mathlib.Core.Option.{Option, none, some, none-ne-some}
use Rattle.std.proofs.lemmas.Bool.{true≢false, false≢true}
use Rattle.av1.specs.declared.refusal.Refusal.{Refusal}
use Rattle.av1.specs.declared.refusal.Refusal.TheVariants as no
use Rattle.cdf.specs.declared.entry.Entry.{Entry}
use Rattle.journal.specs.declared.Mark.{Mark}
use Rattle.model.proofs.Standing.{or_else_first, or_else_second}
use Rattle.model.specs.Calls.{answer_by, back_step, keep_step}
use Rattle.model.specs.Decisions.{stage as subject}
use Rattle.model.specs.Runs.{World, answered, at_mark, innermost, keep, lanes_hold, map_asked, refusal, take_back}
use Rattle.stage.specs.declared.state.Trial.{Trial}
use Rattle.stage.specs.View.{kept_of, lanes, world}
use Rattle.holder.proofs.take_back_and_keep.Goals as goal

pub returns-clause-step : goal.returns-clause-step
returns-clause-step g c =
    let rooms = g.S.Sink.rooms c.args.sink.now in
    let map = c.take_back.new.map in
    let entries = g.S.Sink.list c.take_back.new.sink in
    let between : World subject = world c.take_back.new.stage map (lanes c.args.log.now) entries in
    let kept = c.keep-kept.ensures.step map rooms (lanes c.args.log.now) entries in
    kept
    ∙ ap (λ (n : ℕ). keep_step n rooms c.args.trial.depth between) c.take_back.auto.map
    ∙ ap (λ p. keep_step (length c.args.map.now) rooms c.args.trial.depth p.1) c.take_back.ensures.step

-- a trial that could be taken back is the innermost one, and so it can be kept
kept_then : (memory : ℕ) (rooms : List Entry → ℕ) (depth : ℕ) (w : World subject) → is_ok (back_step memory rooms depth w).0 ≡ true
    → is_ok (keep_step memory rooms depth (back_step memory rooms depth w).1).0 ≡ true
unfolding back_step keep_step
kept_then memory rooms depth w = go (refusal subject memory rooms w (take_back depth)) refl
  where
    answer : Option Refusal → Result (Unit {0}) Refusal
    answer r = answer_by r tt

    inner : (ms : List Mark) → innermost depth ms ≡ none → is_ok (answer (innermost depth (at_mark subject w ms).marks)) ≡ true
    inner [] h = absurd (none-ne-some no.NotInnermost (sym h))
    inner (m ∷ ms) h = ap (λ r. is_ok (answer r)) h

    go : (r : Option Refusal) → refusal subject memory rooms w (take_back depth) ≡ r → is_ok (answer r) ≡ true
        → is_ok (answer (refusal subject memory rooms (answered subject w (take_back depth) r).world (keep depth))) ≡ true
    go none e h =
        inner w.marks (or_else_first (innermost depth w.marks) _ (or_else_second (lanes_hold subject w) _ (or_else_second (map_asked subject memory w.core.state) _ e)))
    go (some n) e h = absurd (false≢true h)

told : (r : Result (Unit {0}) (Refusal × Trial)) → is_ok (kept_of r) ≡ is_ok r
told (Ok u) = refl
told (Err e) = refl

pub returns-clause-still : goal.returns-clause-still
returns-clause-still g c h = go c.take_back.result refl
  where
    go : (r : Result (Unit {0}) Refusal) → c.take_back.result ≡ r
        → (c.take_back.new.sink ≡ c.args.sink.now) × (c.keep-kept.new.stage ≡ c.args.stage.now) × (c.take_back.new.map ≡ c.args.map.now)
    go (Err e) k =
        let was = c.take_back.ensures.still (ap is_ok k) in
        (was.0, c.keep-kept.ensures.still h ∙ was.1, was.2)
    go (Ok u) k =
        let kept = kept_then _ _ _ _ (sym (ap (λ p. is_ok p.0) c.take_back.ensures.step) ∙ ap is_ok k) in
        absurd (true≢false (sym kept ∙ sym (ap (λ p. is_ok p.0) (returns-clause-step g c)) ∙ told c.keep-kept.result ∙ h))
