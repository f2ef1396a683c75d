-- A list of calls that was written, and read back.
use Rattle.std.proofs.Common.{◌≡◌, ℕ, ◌≤◌, List, [], ◌++◌, map, length, take, drop, None, Option, sym, ap, ◌∙◌, subst, arith}
use mathlib.Core.Option.{none}
use Rattle.std.proofs.Math.Seq.{take-append_seam}
use Rattle.std.proofs.lemmas.Bool.{le-leb}
use Rattle.std.proofs.lemmas.List.{length-map, nil_from_length}
use Rattle.cdf.specs.declared.entry.Entry.{Entry}
use Rattle.av1.specs.declared.call.Call.{Call}
use Rattle.model.specs.declared.Question.{Question}
use Rattle.model.specs.Decisions.{State, Decision, stage, start_asked}
use Rattle.model.specs.Runs.{World, Lent, Book, empty_book, question_of}
use Rattle.replay.specs.declared.book.Standing.{Standing}
use Rattle.replay.specs.Books.{standing_calls}
use Rattle.replay.specs.Calls.{Answered}
use Rattle.replay.specs.Reads.{stood_of, ReadsBackTo}
use Rattle.replay.specs.Runs.{book_of, ran, standing, start_error, started, write_asked}
use Rattle.replay.proofs.Noting.{book_take, standing_few}
use Rattle.replay.proofs.Traces.{has_outcome, outcome_state}
use Rattle.stage.specs.declared.reader.fault.ReadError.{ReadError}

-- nothing is left that could stop a reading
pub not_stopped : (columns rows last memory questions answers : ℕ) → questions ≤ answers → start_asked columns rows last memory ≡ none → write_asked columns rows last memory questions answers ≡ none
not_stopped columns rows last memory questions answers few asked = rw (le-leb questions answers few) (ap start_error asked)

-- the calls that a book has, and how many they are
pub book_few : (calls : List Call) (answers : List Answered) (taken : List Standing) → standing_calls taken ≡ (book_of (empty_book stage) calls answers).standing → length taken ≤ length calls
book_few calls answers taken e =
    omega (arith, sym (length-map taken stood_of), ap length e, standing_few calls answers (empty_book stage))

-- a book that took down the calls with their answers has those that stand
pub taken_stood : (calls : List Call) (answers : List Answered) (taken : List Standing) → standing_calls taken ≡ (book_of (empty_book stage) calls answers).standing
    → standing_calls taken ≡ standing calls (take (length calls) answers)
taken_stood calls answers taken noted = noted ∙ ap (λ (b : Book Question Decision). b.standing) (book_take calls answers (empty_book stage))

-- a memory that was written whole
pub all_written : {A : Type 0} (n : ℕ) (l old : List A) → length l ≡ n → take n (l ++ drop (length l) old) ≡ l
all_written n l old e = ap (λ k. take k (l ++ drop (length l) old)) (sym e) ∙ take-append_seam l (drop (length l) old)

-- a book that has no calls
pub none_taken : (ss : List Standing) → standing_calls ss ≡ [] → ss ≡ []
none_taken ss e = nil_from_length ss (sym (length-map ss stood_of) ∙ ap length e)

-- as many questions as calls
pub as_many : (taken : List Standing) (questions : List Question) → questions ≡ map (question_of stage) (standing_calls taken) → length questions ≡ length taken
as_many taken questions asked = ap length asked ∙ length-map (standing_calls taken) (question_of stage) ∙ length-map taken stood_of

module _ (memory : ℕ) (room : List Entry → ℕ) (from : State) (lent : Lent stage) (es : List Entry) (calls : List Call) (answers : List Answered) (end : World stage)
    (answered : (ran memory room calls (started from lent es)).answers ≡ take (length calls) answers) (ended : (ran memory room calls (started from lent es)).world ≡ end) (empty : es ≡ [])
    (taken : List Standing) (noted : standing_calls taken ≡ (book_of (empty_book stage) calls answers).standing)
    (questions : List Question) (asked : questions ≡ map (question_of stage) (standing_calls taken)) where
  pub came_back : (stop : Option (ℕ × ReadError)) (read : List Standing) (to : State) (place : ℕ) → ReadsBackTo from end.core.entries questions stop read to place
      → (stop ≡ None) × (standing_calls (take (length taken) read) ≡ standing calls (take (length calls) answers)) × (to ≡ end.core.state)
  came_back stop read to place back =
      let o = has_outcome memory room from lent es calls answered ended empty in
      let p = back calls (take (length calls) answers) o (asked ∙ ap (map (question_of stage)) (taken_stood calls answers taken noted)) in
      (p.0, subst (λ n. standing_calls (take n read) ≡ standing calls (take (length calls) answers)) (as_many taken questions asked) p.1, p.2 ∙ outcome_state memory room from lent es calls answered ended empty)
