-- A read leaves the list from its place on, so that reads follow each other by places.
use Rattle.std.proofs.Common.{◌≡◌, ℕ, zero, suc, ◌-◌, Bool, true, false, List, [], ◌∷◌, drop, Err, refl, ap, ◌∙◌}
use mathlib.Core.Option.{Option, none, some}
use Rattle.av1.specs.declared.refusal.Refusal.{Refusal}
use Rattle.av1.specs.declared.refusal.Refusal.TheVariants as no
use Rattle.cdf.specs.declared.entry.Entry.{Entry}
use Rattle.cdf.specs.Words.{Words}
use Rattle.model.specs.Coders.{after, fits, table_of}
use Rattle.model.specs.Decisions.{State, Decision, stage, tree}
use Rattle.model.specs.Reading.{ReadsByStep, read_each, read_on, read_step, read_told}
use Rattle.model.specs.Runs.{fault, read_asked, reads, settle, stopped, turned, with_first}
use Rattle.model.specs.Tree.{Answer, Syntax, coded, done, faulty, never, read, read_as}

pub drop_one : (p : ℕ) (es rest : List Entry) (e : Entry) → e ∷ rest ≡ drop p es → rest ≡ drop (suc p) es
drop_one zero [] rest e h = cc
drop_one zero (x ∷ xs) rest e h = cc
drop_one (suc p) [] rest e h = cc
drop_one (suc p) (x ∷ xs) rest e h = drop_one p xs rest e h

abbrev pub LeftAt : {D : Type 0} → List Entry → Answer D → Type 0
LeftAt es (read_as d w rest next) = rest ≡ drop next es
LeftAt es (faulty f) = Unit {0}

pub read_left : (D : Type 0) (w : Words) (t : Syntax D) (began last p : ℕ) (l es : List Entry) → l ≡ drop p es → LeftAt es (read w t began last p l)
read_left D w (done d) began last p l es h = h
read_left D w (never n) began last p l es h = tt
read_left D w (coded k f) began last p [] es h = tt
read_left D w (coded k f) began last p (e ∷ l) es h =
    go (fits w k e) (read_left D (after w k e.s) (f e.s) began (table_of k).first (suc p) l es (drop_one p es l e h))
  where
    go : (b : Bool) → LeftAt es (read (after w k e.s) (f e.s) began (table_of k).first (suc p) l)
        → LeftAt es (elim b [ true ↦ read (after w k e.s) (f e.s) began (table_of k).first (suc p) l | false ↦ faulty (record { why = no.EntryUnfit; entry = p - began; table = (table_of k).first; place = p }) ])
    go true rest = rest
    go false rest = tt

pub reads_by_step : ReadsByStep
unfolding read_step
reads_by_step memory es [] s p = refl
reads_by_step memory es (q ∷ qs) s p =
    go (read_asked stage memory s q) (read s.words (tree s q) p 0 p (drop p es)) (read_left (Decision q) s.words (tree s q) p 0 p (drop p es) es refl)
    (λ t r. reads_by_step memory es qs t r)
  where
    go : (o : Option Refusal) (a : Answer (Decision q)) → LeftAt es a
        → ((t : State) (r : ℕ) → reads stage memory t qs (drop r es) r ≡ read_each memory es qs t r)
        → elim o [
          | some n ↦ stopped [] s (drop p es) p (turned n)
          | none ↦ elim a [
            | read_as d w rest next ↦ with_first stage (record { question = q; decision = d }) (reads stage memory (settle stage s q d w) qs rest next)
            | faulty f ↦ stopped [] s (drop p es) p (fault f)
          ]
        ]
        ≡ read_on memory es q (elim o [ some n ↦ (Err (turned n), s, p) | none ↦ read_told q s p a ]) (λ t r. read_each memory es qs t r)
    go (some n) a h more = refl
    go none (read_as d w rest next) h more =
        ap (with_first stage (record { question = q; decision = d })) (ap (λ l. reads stage memory (settle stage s q d w) qs l next) h ∙ more (settle stage s q d w) next)
    go none (faulty f) h more = refl
