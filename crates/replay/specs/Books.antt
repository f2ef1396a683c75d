-- The book as the code keeps it, as the model's.
use Rattle.std.specs.Prelude.{◌≡◌, ℕ, ◌+◌, ◌≤◌, List, map, reverse, Ok, Some, None, vec_capacity, vec_items, vec_len}
use Rattle.av1.specs.declared.call.Answer.TheVariants as told
use Rattle.av1.specs.declared.call.Call.{Call}
use Rattle.av1.specs.declared.call.Call.TheVariants as call
use Rattle.model.specs.declared.Question.{Question}
use Rattle.model.specs.Decisions.{Decision, stage}
use Rattle.model.specs.Runs as model
use Rattle.replay.specs.declared.book.Book.{Book}
use Rattle.replay.specs.declared.book.Standing.{Standing}
use Rattle.replay.specs.Calls.{Answered}
use Rattle.replay.specs.Runs.{stood}

-- calls that stand, with their questions and decisions
abbrev pub standing_calls : List Standing → List (model.Standing stage)
standing_calls l = map (λ (s : Standing). stood s.call s.segment) l

-- the calls that a book has, as they were made
abbrev pub in_book : Book → List Standing
in_book b = vec_items b.standing

-- a call as it is taken down, with the segment that it answered
abbrev pub kept : Call → Answered → Standing
kept c (Ok (told.Segmented n id)) = record { call = c; segment = id }
kept c a = record { call = c; segment = 0 }

-- what a call that can stand answers: the id that it brings, a prediction, or 0 where it is none of a segment
abbrev pub StandsBy : Call → ℕ → Type 0
StandsBy (call.Segment bo z (Some id)) segment = segment ≡ id
StandsBy (call.Segment bo z None) segment = Unit {0}
StandsBy call.Open segment = ⊥
StandsBy (call.TakeBack depth) segment = ⊥
StandsBy (call.Keep depth) segment = ⊥
StandsBy c segment = segment ≡ 0

abbrev pub Stands : Standing → Type 0
Stands s = StandsBy s.call s.segment

-- the top of the stack is the last number
abbrev pub book : Book → model.Book Question Decision
book b = record { standing = standing_calls (vec_items b.standing); numbers = reverse (vec_items b.numbers) }

-- room for n calls more
pub record Room (n : ℕ) (b : Book) : Type 0 where
  pub standing : vec_len b.standing + n ≤ vec_capacity b.standing
  pub numbers : vec_len b.numbers + n ≤ vec_capacity b.numbers
