-- A list of calls written and read back.
use Rattle.std.specs.Prelude.{◌≡◌, ℕ, cond, ◌⊎◌, List, [], ◌∷◌, map, length, take, Ok, Err, None, Result, nat_le, vec_items}
use Rattle.std.proofs.Math.Option.{Option, none, some}
use Rattle.av1.specs.declared.call.Call.{Call}
use Rattle.av1.specs.declared.tile.Cell.{Cell}
use Rattle.cdf.specs.declared.entry.Entry.{Entry}
use Rattle.cdf.specs.Lists.{Each}
use Rattle.model.specs.Decisions.{State, stage, start_asked}
use Rattle.model.specs.Runs as model
use Rattle.model.specs.Runs.{empty_book, or_else, question_of, reads}
use Rattle.replay.specs.declared.book.Book.{Book}
use Rattle.replay.specs.declared.book.Standing.{Standing}
use Rattle.replay.specs.declared.round.Round.{Round}
use Rattle.replay.specs.declared.round.RoundError.{RoundError}
use Rattle.replay.specs.declared.round.RoundError.TheVariants as error
use Rattle.replay.specs.declared.write.ReplayError.{ReplayError}
use Rattle.replay.specs.declared.write.ReplayError.TheVariants as replay
use Rattle.replay.specs.Books.{book, in_book, kept, standing_calls}
use Rattle.replay.specs.Calls.{Answered}
use Rattle.replay.specs.Reads.{reading_of, state_read}
use Rattle.replay.specs.Runs.{book_of, standing, start_error}

-- why no call is made: the memory for the answers is short, or the start of the stage or of the reader is refused
abbrev pub round_asked : ℕ → ℕ → ℕ → ℕ → ℕ → ℕ → ℕ → Option ReplayError
round_asked columns rows last memory read calls answers =
    cond (nat_le calls answers) (start_error (or_else (start_asked columns rows last memory) (start_asked columns rows last read))) (some replay.AnswerMemory)

-- that is the only reason, beside want of memory
abbrev pub StoppedBy : {A : Type 0} → Option ReplayError → Result A RoundError → Type 0
StoppedBy asked (Ok a) = asked ≡ none
StoppedBy asked (Err error.Memory) = asked ≡ none
StoppedBy asked (Err (error.Replay e)) = asked ≡ some e

-- a call of the list, with what it answered
abbrev pub MadeOf : List Call → List Answered → Standing → Type 0
MadeOf [] as' s = ⊥
MadeOf (c ∷ cs) [] s = ⊥
MadeOf (c ∷ cs) (a ∷ as') s = (s ≡ kept c a) ⊎ MadeOf cs as' s

-- a book after these calls: it has those that stand, each as it was made
pub record TookDown (calls : List Call) (answers : List Answered) (b : Book) : Type 0 where
  pub noted : book b ≡ book_of (empty_book stage) calls answers
  pub made : Each (MadeOf calls answers) (in_book b)

-- the record is read by the questions of the calls that stand, over a map of so many cells
abbrev pub RoundReads : ℕ → State → List (model.Standing stage) → List Entry → Round → List Cell → Type 0
RoundReads memory from stood entries r cells =
    (place : ℕ)
    × (reading_of (length (in_book r.book)) r.run.stop (vec_items r.read) (state_read r.run.reader cells) entries place
    ≡ reads stage memory from (map (question_of stage) stood) entries 0)

-- the standing decisions came back, all of them, and the state with them
pub record CameBack (calls : List Call) (answers : List Answered) (r : Round) (to : State) (cells : List Cell) : Type 0 where
  pub whole : r.run.stop ≡ None
  pub read : standing_calls (take (length (in_book r.book)) (vec_items r.read)) ≡ standing calls answers
  pub state : state_read r.run.reader cells ≡ to
