-- Trials of the stage are the model's: opened, kept, taken back.
use Rattle.std.proofs.Common.{◌≡◌, ℕ, suc, ◌+◌, ◌-◌, ◌<◌, ◌≤◌, Bool, true, false, cond, not, ◌||◌, eqb, ltb, List, [], ◌∷◌, ◌++◌, length, reverse, get_or, take, Ok, Err, Result, sym, refl, ap, ◌∙◌, arith}
use mathlib.Core.Option.{Option, none, some}
use Rattle.std.proofs.lemmas.List.{length-reverse, reverse-append, take_all, take_more}
use Rattle.std.proofs.lemmas.Bool.{lt-ltb, le-ltb, ne_eqb}
use Rattle.av1.specs.declared.refusal.Refusal.{Refusal}
use Rattle.av1.specs.declared.refusal.Refusal.TheVariants as no
use Rattle.cdf.specs.declared.entry.Entry.{Entry}
use Rattle.journal.specs.declared.Mark.{Mark}
use Rattle.model.specs.Calls.{answer_by, open_step, keep_step}
use Rattle.model.specs.Decisions.{State, stage}
use Rattle.model.specs.Runs.{World, Lent, Asking, open_trial, keep, refusal, answered, unless, innermost, kept_marks}
use Rattle.stage.specs.declared.state.Journal.{Journal}
use Rattle.stage.specs.Questions.{innermost_asked}
use Rattle.stage.specs.View.{lane, marks_of, no_mark, open_trials, world_at, refused_by}

-- one mark more
marks_more : (ms : List Mark) (m : Mark) → reverse (ms ++ m ∷ []) ≡ m ∷ reverse ms
marks_more ms m = reverse-append ms (m ∷ [])

-- the innermost mark, and those below it
pub marks_first : (ms : List Mark) → 0 < length ms → reverse ms ≡ get_or ms (length ms - 1) no_mark ∷ reverse (take (length ms - 1) ms)
marks_first ms h = ap reverse split ∙ marks_more (take (length ms - 1) ms) (get_or ms (length ms - 1) no_mark)
  where
    split : ms ≡ take (length ms - 1) ms ++ get_or ms (length ms - 1) no_mark ∷ []
    split = sym (take_all (length ms - 1 + 1) ms (omega arith)) ∙ take_more ms (length ms - 1) no_mark (omega arith)

-- a call of a trial by its first no
pub by_refusal : {A : Type 0} (a : A) (w : World stage) (c : Asking stage) (o p : Option Refusal) → o ≡ p
    → ◌≡◌ {A = Result A Refusal × World stage} (answer_by p a, (answered stage w c p).world) (answer_by o a, (answered stage w c o).world)
by_refusal {A} a w c o p h = sym (ap (λ x. (answer_by x a, (answered stage w c x).world)) h)

innermost_is : (j : Journal) (depth : ℕ) → innermost depth (marks_of j) ≡ refused_by (innermost_asked (open_trials j) depth)
innermost_is j depth = go (marks_of j) ∙ ap (λ n. refused_by (innermost_asked n depth)) (length-reverse j.marks.items)
  where
    turn : (b : Bool) → unless b no.NotInnermost ≡ refused_by {A = Unit {0}} (cond (not b) (Err no.NotInnermost) (Ok tt))
    turn true = refl
    turn false = refl

    go : (ms : List Mark) → innermost depth ms ≡ refused_by (innermost_asked (length ms) depth)
    go [] = refl
    go (m ∷ ms) =
        turn (eqb depth (length (m ∷ ms)))
        ∙ ap (λ b. refused_by (cond (b || not (eqb depth (length (m ∷ ms)))) (Err no.NotInnermost) (Ok tt))) (sym (ne_eqb (length (m ∷ ms)) 0 (λ z. omega arith)))

module _ (memory : ℕ) (room : List Entry → ℕ) (s : State) (j : Journal) (l : Lent stage) (es : List Entry) where
  abbrev here : World stage
  here = world_at s j l es

  -- the moment at which a trial is opened
  abbrev moment_at : ℕ → Mark
  moment_at n = record { used = j.used; entries = n }

  few_asked : unless (ltb (length here.marks) 16) no.TooManyTrials ≡ unless (ltb (open_trials j) 16) no.TooManyTrials
  few_asked = ap (λ n. unless (ltb n 16) no.TooManyTrials) (length-reverse j.marks.items)

  pub open_refused : 16 ≤ open_trials j → (Err no.TooManyTrials, here) ≡ open_step memory room here
  unfolding open_step
  open_refused h =
      by_refusal (suc (length here.marks)) here open_trial (refusal stage memory room here open_trial) (some no.TooManyTrials)
      (few_asked ∙ ap (λ b. unless b no.TooManyTrials) (le-ltb (open_trials j) 16 h))

  pub open_accepted : (n deep : ℕ) (i : Journal) → open_trials j < 16 → n ≡ length es → deep ≡ open_trials j + 1
      → i.marks.items ≡ j.marks.items ++ moment_at n ∷ [] → i.used ≡ j.used
      → (Ok deep, world_at s i l es) ≡ open_step memory room here
  unfolding open_step
  open_accepted n deep i h e down more used =
      (λ k. (Ok (depth k), record { core = here.core; small = lane l.small (used k).small; large = lane l.large (used k).large; spots = lane l.spots (used k).spots; marks = marks k }))
      ∙ by_refusal (suc (length here.marks)) here open_trial (refusal stage memory room here open_trial) none
      (few_asked ∙ ap (λ b. unless b no.TooManyTrials) (lt-ltb (open_trials j) 16 h))
    where
      depth : deep ≡ suc (length here.marks)
      depth = omega (arith, down, length-reverse j.marks.items)

      marks : marks_of i ≡ moment_at (length es) ∷ marks_of j
      marks = ap reverse more ∙ marks_more j.marks.items (moment_at n) ∙ ap (λ k. moment_at k ∷ marks_of j) e

  pub keep_refused : (depth : ℕ) (e : Refusal) → Err e ≡ innermost_asked (open_trials j) depth → (Err e, here) ≡ keep_step memory room depth here
  unfolding keep_step
  keep_refused depth e h =
      by_refusal tt here (keep depth) (refusal stage memory room here (keep depth)) (some e) (innermost_is j depth ∙ ap refused_by (sym h))

  -- the outermost trial ends, or another
  kept_world : (m : Mark) (ms : List Mark) → kept_marks stage here (m ∷ ms)
      ≡ record {
        core = here.core;
        small = lane l.small (cond (eqb (length ms) 0) 0 j.used.small);
        large = lane l.large (cond (eqb (length ms) 0) 0 j.used.large);
        spots = lane l.spots (cond (eqb (length ms) 0) 0 j.used.spots);
        marks = ms;
      }
  kept_world m [] = refl
  kept_world m (k ∷ ks) =
      ap (λ b. record {
        core = here.core;
        small = lane l.small (cond b 0 j.used.small);
        large = lane l.large (cond b 0 j.used.large);
        spots = lane l.spots (cond b 0 j.used.spots);
        marks = k ∷ ks;
      }) (sym (ne_eqb (length (k ∷ ks)) 0 (λ z. omega arith)))

  pub keep_accepted : (depth : ℕ) (u : Unit {0}) (i : Journal) → 0 < open_trials j → Ok u ≡ innermost_asked (open_trials j) depth
      → i.marks.items ≡ take (open_trials j - 1) j.marks.items
      → i.used.small ≡ cond (eqb (open_trials i) 0) 0 j.used.small → i.used.large ≡ cond (eqb (open_trials i) 0) 0 j.used.large → i.used.spots ≡ cond (eqb (open_trials i) 0) 0 j.used.spots
      → (Ok tt, world_at s i l es) ≡ keep_step memory room depth here
  unfolding keep_step
  keep_accepted depth u i h o fewer small large spots =
      (λ k. (Ok tt, record { core = here.core; small = lane l.small (small k); large = lane l.large (large k); spots = lane l.spots (spots k); marks = marks_of i }))
      ∙ ap (λ w. (Ok tt, w)) (
      ap (λ n. record {
        core = here.core;
        small = lane l.small (cond (eqb n 0) 0 j.used.small);
        large = lane l.large (cond (eqb n 0) 0 j.used.large);
        spots = lane l.spots (cond (eqb n 0) 0 j.used.spots);
        marks = marks_of i;
      }) (sym (length-reverse i.marks.items))
      ∙ sym (kept_world (get_or j.marks.items (open_trials j - 1) no_mark) (marks_of i))
      ∙ ap (kept_marks stage here) (ap (λ ms. get_or j.marks.items (open_trials j - 1) no_mark ∷ reverse ms) fewer ∙ sym (marks_first j.marks.items h))
      )
      ∙ by_refusal tt here (keep depth) (refusal stage memory room here (keep depth)) none (innermost_is j depth ∙ ap refused_by (sym o))
