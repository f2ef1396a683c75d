use Rattle.std.proofs.Common.{◌≡◌, ◌+◌, ◌++◌, map, take, vec_capacity, vec_items, vec_len}
use Rattle.model.specs.Decisions.{stage}
use Rattle.model.specs.Runs.{question_of}
use Rattle.replay.specs.Books.{standing_calls}
use Rattle.replay.proofs.round.ask_all.Given as goal

abbrev pub invariant-loop-call : goal.invariant-loop-call
invariant-loop-call l =
    record {
      items : vec_items l.questions ≡ vec_items l.initial.questions ++ map (question_of stage) (standing_calls (take l.call-index l.standing));
      capacity : vec_capacity l.questions ≡ vec_capacity l.initial.questions;
      len : vec_len l.questions ≡ vec_len l.initial.questions + l.call-index;
    }
