-- A call as the code names it, and the model's step that it is.
use Rattle.std.specs.Prelude.{ℕ, List, Ok, Err, Result}
use Rattle.std.specs.Option.{is_none, unwrap_or}
use Rattle.av1.specs.declared.refusal.Refusal.{Refusal}
use Rattle.av1.specs.Partitions.{number}
use Rattle.cdf.specs.declared.entry.Entry.{Entry}
use Rattle.model.specs.declared.Question.{Question}
use Rattle.model.specs.declared.Question.TheVariants as of
use Rattle.model.specs.Decisions.{Decision, stage}
use Rattle.model.specs.Runs.{World, Asking, ask, open_trial, take_back, keep, Told, wrote, opened, ended, refused, step}
use Rattle.av1.specs.declared.call.Answer.{Answer}
use Rattle.av1.specs.declared.call.Answer.TheVariants as told
use Rattle.av1.specs.declared.call.Call.{Call}
use Rattle.av1.specs.declared.call.Call.TheVariants as call

abbrev pub asking : Call → Asking stage
asking (call.Partition bo z p) = ask (of.Partition bo.x bo.y z) (number p)
asking (call.Skip bo z flag) = ask (of.Skip bo.x bo.y z) flag
asking (call.Segment bo z id) = ask (of.Segment bo.x bo.y z (is_none id)) (unwrap_or id 0)
asking (call.Alphas u v) = ask of.Alphas (u, v)
asking (call.Vector row col p) = ask (of.Vector p) (row, col)
asking (call.ContextUpdate bo z sub) = ask (of.ContextUpdate bo.x bo.y z sub) tt
asking call.RowStart = ask of.RowStart tt
asking call.Open = open_trial
asking (call.TakeBack depth) = take_back depth
asking (call.Keep depth) = keep depth

-- what an accepted call answers: a segment its number too, an update or a row start nothing
abbrev pub answer_to : ℕ → (q : Question) → Decision q → Answer
answer_to n (of.Segment x y z skip) d = told.Segmented n d
answer_to n (of.ContextUpdate x y z sub) d = told.Done
answer_to n of.RowStart d = told.Done
answer_to n q d = told.Wrote n

-- what a call answers, or why it is refused
abbrev pub Answered : Type 0
Answered = Result Answer Refusal

abbrev pub answer_of : Told Question Decision → Answered
answer_of (wrote n x) = Ok (answer_to n x.question x.decision)
answer_of (opened depth) = Ok (told.Opened depth)
answer_of ended = Ok told.Done
answer_of (refused why) = Err why

-- a call's answer, and the world after it
unfoldable pub call_step : ℕ → (List Entry → ℕ) → Call → World stage → Answered × World stage
call_step memory room c w = (answer_of (step stage memory room w (asking c)).answer, (step stage memory room w (asking c)).world)
