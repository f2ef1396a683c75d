-- The questions of each call by their numbers, in the order in which they are asked: the first no is what is told.
use Rattle.std.specs.Prelude.{◌≡◌, ℕ, suc, Bool, true, false, cond, ◌&&◌, ◌||◌, List, [], ◌∷◌, length, ◌==◌, nat_le, nat_lt}
use Rattle.std.proofs.Math.Option.{Option, none, some}
use Rattle.av1.specs.declared.refusal.Refusal.{Refusal}
use Rattle.av1.specs.Alphas.{alphas_allowed}
use Rattle.av1.specs.Refusals.{number}
use Rattle.av1.specs.Sizes.{splits, no_side_above, fits_in}
use Rattle.cdf.specs.declared.entry.Entry.{Entry}
use Rattle.journal.specs.declared.Mark.{Mark}
use Rattle.model.specs.declared.Question.{Question}
use Rattle.model.specs.declared.Question.TheVariants as of
use Rattle.model.specs.Decisions.{State, Decision, stage, units, in_tile, has_rows, has_columns, table_at, partition_allowed, decided, path, trail}
use Rattle.model.specs.Runs.{World, Asking, ask, open_trial, take_back, keep, has_room, holds_used, refusal}
use Rattle.model.specs.Vector.{in_range, fits_precision}

-- a question's number, and whether it is answered by yes
abbrev pub Asked : Type 0
Asked = ℕ × Bool

-- the number of the first that is answered by no
abbrev pub first_no : List Asked → Option ℕ
first_no [] = none
first_no (a ∷ as') = cond a.1 (first_no as') (some a.0)

abbrev pub told_number : Option Refusal → Option ℕ
told_number none = none
told_number (some n) = some (number n)

-- the numbers rise
abbrev pub rises : List Asked → Bool
rises [] = true
rises (a ∷ []) = true
rises (a ∷ b ∷ as') = nat_lt a.0 b.0 && rises (b ∷ as')

-- the depth is that of the innermost open trial, whose mark the sink still has
abbrev pub is_innermost : ℕ → List Mark → Bool
is_innermost k [] = false
is_innermost k (m ∷ ms) = k == suc (length ms)

abbrev pub has_mark : ℕ → List Mark → Bool
has_mark count [] = true
has_mark count (m ∷ ms) = nat_le m.entries count

abbrev pub none_open : List Mark → Bool
none_open [] = true
none_open (m ∷ ms) = false

-- the map's memory is enough, and so are the sink's room and, while a trial is open, the lanes
abbrev pub mapped : ℕ → World stage → Bool
mapped memory w = nat_le (units w.core.state) memory

abbrev pub place_for : (List Entry → ℕ) → World stage → (q : Question) → Decision q → Bool
place_for room w q d = nat_le (length (path w.core.state q (decided w.core.state q d))) (room w.core.entries)

abbrev pub lanes_for : World stage → (q : Question) → Decision q → Bool
lanes_for w q d =
    let t = trail w.core.state q (decided w.core.state q d) in
    none_open w.marks || (has_room w.small t.small && (has_room w.large t.large && has_room w.spots t.spots))

abbrev pub questions : ℕ → (List Entry → ℕ) → World stage → Asking stage → List Asked
questions memory room w (ask (of.Partition x y z) d) =
    let s : State = w.core.state in
    let q : Question = of.Partition x y z in
    (4, splits 64 z)
    ∷ (5, in_tile s x y z)
    ∷ (6, partition_allowed (has_rows s y z) (has_columns s x z) (table_at s x y z) d)
    ∷ (11, place_for room w q d)
    ∷ (12, lanes_for w q d)
    ∷ []
questions memory room w (ask (of.Skip x y z) d) =
    let q : Question = of.Skip x y z in
    (3, mapped memory w) ∷ (4, no_side_above 64 z) ∷ (5, in_tile w.core.state x y z) ∷ (11, place_for room w q d) ∷ (12, lanes_for w q d) ∷ []
questions memory room w (ask (of.Segment x y z skip) d) =
    let s : State = w.core.state in
    let q : Question = of.Segment x y z skip in
    (3, mapped memory w)
    ∷ (4, no_side_above 64 z)
    ∷ (5, in_tile s x y z)
    ∷ (7, skip || nat_le d s.last)
    ∷ (11, place_for room w q d)
    ∷ (12, lanes_for w q d)
    ∷ []
questions memory room w (ask of.Alphas d) = (8, alphas_allowed d) ∷ (11, place_for room w of.Alphas d) ∷ (12, lanes_for w of.Alphas d) ∷ []
questions memory room w (ask (of.Vector p) d) =
    let q : Question = of.Vector p in
    (9, in_range d) ∷ (10, fits_precision p d) ∷ (11, place_for room w q d) ∷ (12, lanes_for w q d) ∷ []
questions memory room w (ask (of.ContextUpdate x y z sub) d) =
    let q : Question = of.ContextUpdate x y z sub in
    (4, splits 64 z && fits_in sub z) ∷ (5, in_tile w.core.state x y z) ∷ (12, lanes_for w q d) ∷ []
questions memory room w (ask of.RowStart d) = (16, none_open w.marks) ∷ []
questions memory room w open_trial = (13, nat_lt (length w.marks) 16) ∷ []
questions memory room w (take_back k) =
    (3, mapped memory w)
    ∷ (12, holds_used w.small && (holds_used w.large && holds_used w.spots))
    ∷ (14, is_innermost k w.marks)
    ∷ (15, has_mark (length w.core.entries) w.marks)
    ∷ []
questions memory room w (keep k) = (14, is_innermost k w.marks) ∷ []

-- of each call the first no is told by its number
abbrev pub FirstNoTold : Type 0
FirstNoTold =
    (memory : ℕ) (room : List Entry → ℕ) (w : World stage) (c : Asking stage)
    → told_number (refusal stage memory room w c) ≡ first_no (questions memory room w c)

abbrev pub QuestionsRise : Type 0
QuestionsRise = (memory : ℕ) (room : List Entry → ℕ) (w : World stage) (c : Asking stage) → rises (questions memory room w c) ≡ true
