-- The first question that is answered by no is told.
use Rattle.std.proofs.Common.{◌≡◌, ℕ, Bool, true, false, ◌&&◌, ◌||◌, cond, List, [], ◌∷◌, ◌++◌, length, refl, sym, subst, ◌∙◌, arith, nat_le, le→leb}
use mathlib.Core.Option.{Option, none, some, none-ne-some}
use Rattle.av1.specs.declared.refusal.Refusal.{Refusal}
use Rattle.av1.specs.declared.refusal.Refusal.TheVariants as no
use Rattle.av1.specs.Refusals.{number}
use Rattle.cdf.proofs.Booleans.{T→true}
use Rattle.cdf.specs.declared.entry.Entry.{Entry}
use Rattle.journal.specs.declared.Mark.{Mark}
use Rattle.model.specs.declared.Question.{Question}
use Rattle.model.specs.declared.Question.TheVariants as of
use Rattle.model.specs.Decisions.{Decision, stage, decided, asked_open, trail}
use Rattle.model.specs.Runs.{World, ask, open_trial, take_back, keep, or_else, unless, innermost, fewer_asked, open_questions, lanes_asked, has_room, refusal, Asking}
use Rattle.replay.specs.Questions.{Asked, first_no, told_number, is_innermost, has_mark, none_open, lanes_for, questions, FirstNoTold, QuestionsRise}

-- an answer is the first no of these questions
record Says (r : Option Refusal) (qs : List Asked) : Type 0 where
  first : told_number r ≡ first_no qs

one : (b : Bool) (n : Refusal) → Says (unless b n) ((number n, b) ∷ [])
one true n = record { first = refl }
one false n = record { first = refl }

-- a question that no call fails
yes : (b : Bool) (n : Refusal) → b ≡ true → Says (unless b n) []
yes b n e = subst (λ x. Says (unless x n) []) (sym e) (record { first = refl })

-- a question before others, where none of those is told, and where one is
before_none : (x : Bool) (r t u : Option ℕ) (n : ℕ) → (none ≡ r → t ≡ u) → none ≡ cond x r (some n) → cond x t (some n) ≡ u
before_none true r t u n f e = f e
before_none false r t u n f e = absurd (none-ne-some n e)

before_some : (x : Bool) (r t : Option ℕ) (m n : ℕ) → (some m ≡ r → some m ≡ t) → some m ≡ cond x r (some n) → some m ≡ cond x t (some n)
before_some true r t m n f e = f e
before_some false r t m n f e = e

passed : (qs ps : List Asked) → none ≡ first_no qs → first_no (qs ++ ps) ≡ first_no ps
passed [] ps e = refl
passed (q ∷ qs) ps e = before_none q.1 (first_no qs) (first_no (qs ++ ps)) (first_no ps) q.0 (passed qs ps) e

kept : (m : ℕ) (qs ps : List Asked) → some m ≡ first_no qs → some m ≡ first_no (qs ++ ps)
kept m [] ps e = absurd (none-ne-some m (sym e))
kept m (q ∷ qs) ps e = before_some q.1 (first_no qs) (first_no (qs ++ ps)) m q.0 (kept m qs ps) e

-- the questions of one part and then those of another
join : {a b : Option Refusal} {qs ps : List Asked} → Says a qs → Says b ps → Says (or_else a b) (qs ++ ps)
join {a = none} {qs = qs} {ps = ps} s t = record { first = t.first ∙ sym (passed qs ps s.first) }
join {a = some n} {qs = qs} {ps = ps} s t = record { first = kept (number n) qs ps s.first }

-- room for no entry
room_for_none : (n : ℕ) → Says (unless (nat_le 0 n) no.Room) []
room_for_none n = yes (nat_le 0 n) no.Room (T→true _ (le→leb 0 n (omega arith)))

-- on the lanes, of a call that may be made while a trial is open
lanes_say : (w : World stage) (q : Question) (d : Decision q) → asked_open q ≡ none
    → Says (open_questions stage w q (decided w.core.state q d) w.marks) ((12, lanes_for w q d) ∷ [])
lanes_say w q d e = go w.marks
  where
    go : (ms : List Mark)
        → let t = trail w.core.state q (decided w.core.state q d) in
        Says (open_questions stage w q (decided w.core.state q d) ms)
        ((12, none_open ms || (has_room w.small t.small && (has_room w.large t.large && has_room w.spots t.spots))) ∷ [])
    go [] = record { first = refl }
    go (m ∷ ms) =
        let t = trail w.core.state q (decided w.core.state q d) in
        subst (λ a. Says (or_else a (lanes_asked stage w t)) ((12, has_room w.small t.small && (has_room w.large t.large && has_room w.spots t.spots)) ∷ [])) (sym e) (one _ no.LogRoom)

innermost_says : (k : ℕ) (ms : List Mark) → Says (innermost k ms) ((14, is_innermost k ms) ∷ [])
innermost_says k [] = record { first = refl }
innermost_says k (m ∷ ms) = one _ no.NotInnermost

fewer_says : (w : World stage) (ms : List Mark) → Says (fewer_asked stage w ms) ((15, has_mark (length w.core.entries) ms) ∷ [])
fewer_says w [] = record { first = refl }
fewer_says w (m ∷ ms) = one _ no.EntriesGone

row_says : (w : World stage) (ms : List Mark) → Says (open_questions stage w of.RowStart tt ms) ((16, none_open ms) ∷ [])
row_says w [] = record { first = refl }
row_says w (m ∷ ms) = record { first = refl }

told : (memory : ℕ) (room : List Entry → ℕ) (w : World stage) (c : Asking stage) → Says (refusal stage memory room w c) (questions memory room w c)
told memory room w (ask (of.Partition x y z) d) =
    join (join (join (one _ no.BlockSize) (one _ no.Position)) (join (one _ no.Partition) (one _ no.Room))) (lanes_say w (of.Partition x y z) d refl)
told memory room w (ask (of.Skip x y z) d) =
    join (one _ no.MapMemory) (join (join (join (one _ no.BlockSize) (one _ no.Position)) (one _ no.Room)) (lanes_say w (of.Skip x y z) d refl))
told memory room w (ask (of.Segment x y z skip) d) =
    join (one _ no.MapMemory)
    (join (join (join (one _ no.BlockSize) (one _ no.Position)) (join (one _ no.Segment) (one _ no.Room))) (lanes_say w (of.Segment x y z skip) d refl))
told memory room w (ask of.Alphas d) = join (join (one _ no.Alphas) (one _ no.Room)) (lanes_say w of.Alphas d refl)
told memory room w (ask (of.Vector p) d) =
    join (join (join (one _ no.VectorRange) (one _ no.VectorPrecision)) (one _ no.Room)) (lanes_say w (of.Vector p) d refl)
told memory room w (ask (of.ContextUpdate x y z sub) d) =
    join (join (join (one _ no.BlockSize) (one _ no.Position)) (room_for_none (room w.core.entries))) (lanes_say w (of.ContextUpdate x y z sub) d refl)
told memory room w (ask of.RowStart d) = join (room_for_none (room w.core.entries)) (row_says w w.marks)
told memory room w open_trial = one _ no.TooManyTrials
told memory room w (take_back k) = join (one _ no.MapMemory) (join (one _ no.LogRoom) (join (innermost_says k w.marks) (fewer_says w w.marks)))
told memory room w (keep k) = innermost_says k w.marks

pub told_first : FirstNoTold
told_first memory room w c = (told memory room w c).first

pub questions_rise : QuestionsRise
questions_rise memory room w (ask (of.Partition x y z) d) = refl
questions_rise memory room w (ask (of.Skip x y z) d) = refl
questions_rise memory room w (ask (of.Segment x y z skip) d) = refl
questions_rise memory room w (ask of.Alphas d) = refl
questions_rise memory room w (ask (of.Vector p) d) = refl
questions_rise memory room w (ask (of.ContextUpdate x y z sub) d) = refl
questions_rise memory room w (ask of.RowStart d) = refl
questions_rise memory room w open_trial = refl
questions_rise memory room w (take_back k) = refl
questions_rise memory room w (keep k) = refl
