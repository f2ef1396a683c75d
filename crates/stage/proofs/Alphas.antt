-- The alphas' decision of the stage is the model's.
use Rattle.std.proofs.Common.{◌≡◌, ℕ, zero, suc, ◌+◌, true, false, leb, List, length, ℤ, pos, negsuc, Ok, Err, sym, refl, ap, ◌∙◌, ap₂}
use mathlib.Core.Option.{Option, none, some}
use Rattle.std.specs.declared.option.Option as std
use Rattle.av1.specs.declared.refusal.Refusal.{Refusal}
use Rattle.av1.specs.declared.refusal.Refusal.TheVariants as no
use Rattle.av1.specs.Alphas.{alphas_allowed, joint_sign, coded_alpha}
use Rattle.av1.specs.Vectors.{nonzero}
use Rattle.cdf.specs.declared.entry.Entry.{Entry}
use Rattle.cdf.specs.Words.{Words, table}
use Rattle.model.specs.declared.Question.TheVariants as question
use Rattle.model.specs.Alphas.{alphas_tree, alphas_path}
use Rattle.model.specs.Calls.{decision_step, symbol_step, symbol_steps}
use Rattle.model.specs.Coders.{whole}
use Rattle.model.specs.Decisions.{State, stage, small_of, large_of}
use Rattle.model.specs.Runs.{World, Lent, ask, refusal, or_else, unless, open_questions}
use Rattle.model.specs.Tree.{written}
use Rattle.stage.specs.declared.state.Journal.{Journal}
use Rattle.stage.specs.Alphas.{scale_count, scale_step}
use Rattle.stage.specs.Questions.{need, record_asked}
use Rattle.stage.specs.View.{marks_of, world_at, refused_by}
use Rattle.stage.proofs.Calls.{refused_step, accepted_step, record_refusal}

-- a zero has no symbol
pub counted : (a other : ℤ) → scale_count (coded_alpha a other) ≡ nonzero a
counted (pos zero) other = refl
counted (pos (suc n)) other = refl
counted (negsuc n) other = refl

-- the symbols: the signs, and then each alpha that is not zero; each has an entry and a window of 16 words
record Coded (u v : ℤ) : Type 0 where
  steps : (w : World stage)
      → scale_step (coded_alpha v u) (scale_step (coded_alpha u v) (symbol_step (whole (table 22 8)) (joint_sign (u, v)) w)) ≡ symbol_steps alphas_tree (alphas_path (u, v)) w
  symbols : length (alphas_path (u, v)) ≡ 1 + (nonzero u + nonzero v)
  entries : (w : Words) → length (written w alphas_tree (alphas_path (u, v))).entries ≡ 1 + (nonzero u + nonzero v)
  small : (w : Words) → length (small_of w alphas_tree (alphas_path (u, v))) ≡ 0
  large : (w : Words) → length (large_of w alphas_tree (alphas_path (u, v))) ≡ 1 + (nonzero u + nonzero v)

coded : (u v : ℤ) → Coded u v
coded (pos zero) (pos zero) = record { steps = λ w. refl; symbols = refl; entries = λ w. refl; small = λ w. refl; large = λ w. refl }
coded (pos zero) (pos (suc b)) = record { steps = λ w. refl; symbols = refl; entries = λ w. refl; small = λ w. refl; large = λ w. refl }
coded (pos zero) (negsuc b) = record { steps = λ w. refl; symbols = refl; entries = λ w. refl; small = λ w. refl; large = λ w. refl }
coded (pos (suc a)) (pos zero) = record { steps = λ w. refl; symbols = refl; entries = λ w. refl; small = λ w. refl; large = λ w. refl }
coded (pos (suc a)) (pos (suc b)) = record { steps = λ w. refl; symbols = refl; entries = λ w. refl; small = λ w. refl; large = λ w. refl }
coded (pos (suc a)) (negsuc b) = record { steps = λ w. refl; symbols = refl; entries = λ w. refl; small = λ w. refl; large = λ w. refl }
coded (negsuc a) (pos zero) = record { steps = λ w. refl; symbols = refl; entries = λ w. refl; small = λ w. refl; large = λ w. refl }
coded (negsuc a) (pos (suc b)) = record { steps = λ w. refl; symbols = refl; entries = λ w. refl; small = λ w. refl; large = λ w. refl }
coded (negsuc a) (negsuc b) = record { steps = λ w. refl; symbols = refl; entries = λ w. refl; small = λ w. refl; large = λ w. refl }

module _ (memory : ℕ) (room : List Entry → ℕ) (s : State) (j : Journal) (l : Lent stage) (es : List Entry) (u v : ℤ) where
  -- how many symbols
  abbrev count : ℕ
  count = 1 + (nonzero u + nonzero v)

  alphas_refusal : refusal stage memory room (world_at s j l es) (ask question.Alphas (u, v))
      ≡ or_else (unless (alphas_allowed (u, v)) no.Alphas) (refused_by (record_asked j l (room es) count (need 0 count 0)))
  alphas_refusal =
      regroup (unless (alphas_allowed (u, v)) no.Alphas) few (open_questions stage (world_at s j l es) question.Alphas (u, v) (marks_of j))
      ∙ ap (or_else (unless (alphas_allowed (u, v)) no.Alphas))
      (record_refusal s j l es question.Alphas (u, v) (room es) count 0 count 0 refl (coded u v).symbols ((coded u v).small s.words) ((coded u v).large s.words) refl)
    where
      few : Option Refusal
      few = unless (leb (length (alphas_path (u, v))) (room es)) no.Room

      regroup : (a b c : Option Refusal) → or_else (or_else a b) c ≡ or_else a (or_else b c)
      regroup none b c = refl
      regroup (some e) b c = refl

  pub refused_alphas : alphas_allowed (u, v) ≡ false → (Err no.Alphas, world_at s j l es) ≡ decision_step memory room question.Alphas (u, v) (world_at s j l es)
  refused_alphas h =
      refused_step memory room question.Alphas (u, v) (world_at s j l es) no.Alphas
      (alphas_refusal ∙ ap (λ b. or_else (unless b no.Alphas) (refused_by (record_asked j l (room es) count (need 0 count 0)))) h)

  -- the questions that are left once the alphas are accepted
  asked_record : (r n : ℕ) → alphas_allowed (u, v) ≡ true → r ≡ room es → n ≡ count
      → refusal stage memory room (world_at s j l es) (ask question.Alphas (u, v)) ≡ refused_by (record_asked j l r n (need 0 n 0))
  asked_record r n h same many =
      alphas_refusal ∙ ap (λ b. or_else (unless b no.Alphas) (refused_by (record_asked j l (room es) count (need 0 count 0)))) h
      ∙ sym (ap₂ (λ k m. refused_by (record_asked j l k m (need 0 m 0))) same many)

  pub refused_record : (r n : ℕ) (e : Refusal) → alphas_allowed (u, v) ≡ true → r ≡ room es → n ≡ count → Err e ≡ record_asked j l r n (need 0 n 0)
      → (Err e, world_at s j l es) ≡ decision_step memory room question.Alphas (u, v) (world_at s j l es)
  refused_record r n e h same many refused =
      refused_step memory room question.Alphas (u, v) (world_at s j l es) e (asked_record r n h same many ∙ ap refused_by (sym refused))

  -- the signs are coded, and then each alpha
  pub accepted : (r n sign : ℕ) (first second : std.Option (ℕ × ℕ)) (after_signs after_first after : World stage) (t : Unit {0})
      → alphas_allowed (u, v) ≡ true → r ≡ room es → n ≡ count → Ok t ≡ record_asked j l r n (need 0 n 0)
      → sign ≡ joint_sign (u, v) → first ≡ coded_alpha u v → second ≡ coded_alpha v u
      → after_signs ≡ symbol_step (whole (table 22 8)) sign (world_at s j l es) → after_first ≡ scale_step first after_signs → after ≡ scale_step second after_first
      → (Ok n, after) ≡ decision_step memory room question.Alphas (u, v) (world_at s j l es)
  accepted r n sign first second after_signs after_first after t h same many recorded signs one two a b c =
      accepted_step memory room question.Alphas (u, v) (world_at s j l es) after n (asked_record r n h same many ∙ ap refused_by (sym recorded)) ((coded u v).entries s.words ∙ sym many)
      (c ∙ ap₂ scale_step two (b ∙ ap₂ scale_step one (a ∙ ap (λ k. symbol_step (whole (table 22 8)) k (world_at s j l es)) signs)) ∙ (coded u v).steps (world_at s j l es))
