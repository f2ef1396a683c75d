-- Questions read one after the other, by the calls that answer them, and what that gives back of a run.
use Rattle.std.specs.Prelude.{◌≡◌, ℕ, List, map, length, take, drop, Ok, Err, Some, None, Option, Result}
use Rattle.cdf.specs.declared.entry.Entry.{Entry}
use Rattle.av1.specs.declared.call.Call.{Call}
use Rattle.av1.specs.declared.tile.Cell.{Cell}
use Rattle.model.specs.declared.Question.{Question}
use Rattle.model.specs.Decisions.{State, Decision, stage}
use Rattle.model.specs.Reading.{read_step}
use Rattle.model.specs.Runs as model
use Rattle.model.specs.Runs.{Reading, Stop, all_read, stopped, fresh, question_of}
use Rattle.replay.specs.declared.book.Standing.{Standing}
use Rattle.replay.specs.Books.{standing_calls}
use Rattle.replay.specs.Calls.{Answered}
use Rattle.replay.specs.Runs.{stood, standing, ran, Outcome}
use Rattle.stage.specs.declared.reader.fault.ReadError.{ReadError}
use Rattle.stage.specs.declared.reader.Reader.{Reader}
use Rattle.stage.specs.Faults.{seen_by, stop_of}
use Rattle.stage.specs.View.{state_of, units_of}

-- a call as the model has it: its question and its decision
abbrev pub stood_of : Standing → model.Standing stage
stood_of s = stood s.call s.segment

-- a reader with the memory of the map
abbrev pub state_read : Reader → List Cell → State
state_read r memory = state_of r.stage memory

abbrev pub units_read : Reader → ℕ
units_read r = units_of r.stage

-- a read answers the question with its decision
abbrev pub with_question : (q : Question) → Result (Decision q) Stop × State × ℕ → Result (model.Standing stage) Stop × State × ℕ
with_question q (Ok d, s, p) = (Ok (record { question = q; decision = d }), s, p)
with_question q (Err n, s, p) = (Err n, s, p)

-- what a question is answered by, the state after it and the place in the source
unfoldable pub call_read : ℕ → List Entry → Question → State → ℕ → Result (model.Standing stage) Stop × State × ℕ
call_read memory es q s p = with_question q (read_step memory es q s p)

-- what a read answers, in the model's terms
abbrev pub call_seen : Result Standing ReadError → Result (model.Standing stage) Stop
call_seen r = seen_by stood_of r

-- all questions are answered, or the one with this number is not, and why
abbrev pub reading_of : ℕ → Option (ℕ × ReadError) → List Standing → State → List Entry → ℕ → Reading stage
reading_of n None answers s es p = all_read (standing_calls (take n answers)) s (drop p es) p
reading_of n (Some (i, why)) answers s es p = stopped (standing_calls (take i answers)) s (drop p es) p (stop_of why)

-- how many questions are answered
abbrev pub answered_first : ℕ → Option (ℕ × ReadError) → ℕ
answered_first n None = n
answered_first n (Some (i, why)) = i

-- the tables, contexts and cells that a run leaves
abbrev pub left_by : {from : State} {calls : List Call} {answers : List Answered} {entries : List Entry} → Outcome from calls answers entries → State
left_by {from} {calls} o = (ran o.memory o.room calls (fresh stage from o.lent)).world.core.state

-- Read back: where the entries are the record of a list of calls from the same start, and the questions those of its standing
-- calls, all of them are answered, by the standing decisions; the state is then the one that the calls left, and no entry is left.
abbrev pub ReadsBackTo : State → List Entry → List Question → Option (ℕ × ReadError) → List Standing → State → ℕ → Type 0
ReadsBackTo from entries questions stop answers to place =
    (calls : List Call) (told : List Answered) (o : Outcome from calls told entries) → questions ≡ map (question_of stage) (standing calls told)
    → (stop ≡ None) × (standing_calls (take (length questions) answers) ≡ standing calls told) × (to ≡ left_by o) × (place ≡ length entries)
