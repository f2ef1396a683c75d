-- A list of calls from a start, the book of its standing calls, and what holds of any such list.
use Rattle.std.specs.Prelude.{◌≡◌, ℕ, ◌<◌, ◌≤◌, cond, ◌≢◌, List, [], ◌∷◌, ◌++◌, map, length, Ok, Err, Result, nat_le, slice_index}
use Rattle.std.specs.Option.{is_none}
use Rattle.std.proofs.Math.Option.{Option, none, some}
use Rattle.av1.specs.declared.refusal.Refusal.{Refusal}
use Rattle.av1.specs.declared.tile.Cell.{Cell}
use Rattle.cdf.specs.declared.entry.Entry.{Entry}
use Rattle.av1.specs.Partitions.{number}
use Rattle.model.specs.declared.Question.{Question}
use Rattle.model.specs.declared.Question.TheVariants as of
use Rattle.model.specs.Decisions.{State, Decision, stage, units, start_asked}
use Rattle.model.specs.Runs.{World, Core, Lent, Book, Standing, Told, wrote, opened, ended, refused, noted, empty_book, fresh, as_call, Accepted, unused, symbol}
use Rattle.model.specs.Runs as model
use Rattle.av1.specs.declared.call.Answer.TheVariants as told
use Rattle.av1.specs.declared.call.Call.{Call}
use Rattle.av1.specs.declared.call.Call.TheVariants as call
use Rattle.replay.specs.declared.write.ReplayError.{ReplayError}
use Rattle.replay.specs.declared.write.ReplayError.TheVariants as error
use Rattle.replay.specs.Calls.{Answered, asking, call_step}
use Rattle.stage.specs.declared.state.Stage.{Stage}
use Rattle.stage.specs.View.{refused_by, state_of}

-- the world after a list of calls, and what each answered
pub record Ran : Type 0 where
  pub world : World stage
  pub answers : List Answered

abbrev pub before : Answered → Ran → Ran
before a r = record { world = r.world; answers = a ∷ r.answers }

-- the calls one after the other, those that are refused too
abbrev pub ran : ℕ → (List Entry → ℕ) → List Call → World stage → Ran
ran memory room [] w = record { world = w; answers = [] }
ran memory room (c ∷ cs) w = before (call_step memory room c w).0 (ran memory room cs (call_step memory room c w).1)

-- a stage at its start over a sink with these entries
abbrev pub started : State → Lent stage → List Entry → World stage
started s l es = record { core = record { state = s; entries = es }; small = unused l.small; large = unused l.large; spots = unused l.spots; marks = [] }

-- what a stage, its map and its sink hold after calls: tables, contexts, cells and record
abbrev pub core_of : Stage → List Cell → List Entry → Core stage
core_of s memory es = record { state = state_of s memory; entries = es }

-- why no call is made: the memory for the answers is short, or the start is refused
abbrev pub start_error : Option Refusal → Option ReplayError
start_error none = none
start_error (some why) = some (error.Start why)

abbrev pub write_asked : ℕ → ℕ → ℕ → ℕ → ℕ → ℕ → Option ReplayError
write_asked columns rows last memory calls answers = cond (nat_le calls answers) (start_error (start_asked columns rows last memory)) (some error.AnswerMemory)

abbrev pub stopped_by : {A : Type 0} → Result A ReplayError → Option ReplayError
stopped_by (Ok a) = none
stopped_by (Err e) = some e

-- the question of a call and its decision; a segment's is the one that the call answers
abbrev pub stood : Call → ℕ → Standing stage
stood (call.Partition bo z p) answered = record { question = of.Partition bo.x bo.y z; decision = number p }
stood (call.Skip bo z flag) answered = record { question = of.Skip bo.x bo.y z; decision = flag }
stood (call.Segment bo z id) answered = record { question = of.Segment bo.x bo.y z (is_none id); decision = answered }
stood (call.Alphas u v) answered = record { question = of.Alphas; decision = (u, v) }
stood (call.Vector row col p) answered = record { question = of.Vector p; decision = (row, col) }
stood (call.ContextUpdate bo z sub) answered = record { question = of.ContextUpdate bo.x bo.y z sub; decision = tt }
stood c answered = record { question = of.RowStart; decision = tt }

-- what the book is told of a call: by the call and its answer alone
abbrev pub told_done : Call → Told Question Decision
told_done (call.ContextUpdate bo z sub) = wrote 0 (stood (call.ContextUpdate bo z sub) 0)
told_done call.RowStart = wrote 0 (stood call.RowStart 0)
told_done c = ended

abbrev pub told_of : Call → Answered → Told Question Decision
told_of c (Ok (told.Wrote n)) = wrote n (stood c 0)
told_of c (Ok (told.Segmented n id)) = wrote n (stood c id)
told_of c (Ok told.Done) = told_done c
told_of c (Ok (told.Opened depth)) = opened depth
told_of c (Err why) = refused why

-- the book, fed each call with its answer
abbrev pub book_of : Book Question Decision → List Call → List Answered → Book Question Decision
book_of b [] as' = b
book_of b (c ∷ cs) [] = b
book_of b (c ∷ cs) (a ∷ as') = book_of (noted b (asking c) (told_of c a)) cs as'

-- the calls that were accepted and not taken back
abbrev pub standing : List Call → List Answered → List (Standing stage)
standing calls answers = (book_of (empty_book stage) calls answers).standing

-- each call was refused exactly where the questions say no, in the world that the calls before it left, and by the first no
abbrev pub RefusedWhereAsked : ℕ → (List Entry → ℕ) → World stage → List Call → List Answered → Type 0
RefusedWhereAsked memory room w [] as' = Unit {0}
RefusedWhereAsked memory room w (c ∷ cs) [] = ⊥
RefusedWhereAsked memory room w (c ∷ cs) (a ∷ as') =
    (refused_by a ≡ model.refusal stage memory room w (asking c)) × RefusedWhereAsked memory room (call_step memory room c w).1 cs as'

-- No trace: on a fresh stage without trials, over a sink with the same room for each list and with any lanes and map, the
-- standing calls alone are all accepted, and they leave the same tables, contexts, cells and record.
abbrev pub NoTraceOf : (List Entry → ℕ) → State → List Call → List Answered → Core stage → Type 0
NoTraceOf room from calls answers to =
    (memory : ℕ) (lent : Lent stage) → units from ≤ memory
    → let alone : List (model.Asking stage) = map (as_call stage) (standing calls answers) in
    Accepted stage memory room (fresh stage from lent) alone × ((model.run stage memory room (fresh stage from lent) (empty_book stage) alone).world.core ≡ to)

-- these answers, and this record, are those of a list of calls from a start, over some sink, map and lanes
pub record Outcome (from : State) (calls : List Call) (answers : List Answered) (entries : List Entry) : Type 0 where
  pub memory : ℕ
  pub room : List Entry → ℕ
  pub lent : Lent stage
  pub answered : (ran memory room calls (fresh stage from lent)).answers ≡ answers
  pub left : (ran memory room calls (fresh stage from lent)).world.core.entries ≡ entries

-- two records differ in the symbol at a number that both hold
abbrev pub SymbolsDiffer : List Entry → List Entry → Type 0
SymbolsDiffer one two =
    (i : ℕ) × (i < length one) × (i < length two) × (slice_index (map (symbol stage) one) i ≢ slice_index (map (symbol stage) two) i)

-- Told apart: another list of calls from the same start, whose standing calls first differ from these in the answer to one
-- question, has a record that differs in a symbol.
abbrev pub ToldApart : State → List Call → List Answered → List Entry → Type 0
ToldApart from calls answers entries =
    (calls' : List Call) (answers' : List Answered) (entries' : List Entry) → Outcome from calls' answers' entries'
    → (same more more' : List (Standing stage)) (q : Question) (d e : Decision q)
    → standing calls answers ≡ same ++ record { question = q; decision = d } ∷ more
    → standing calls' answers' ≡ same ++ record { question = q; decision = e } ∷ more'
    → d ≢ e → SymbolsDiffer entries entries'
