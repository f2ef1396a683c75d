use Rattle.std.proofs.Common.{◌≡◌, ◌++◌, length, take, drop}
use Rattle.replay.specs.Runs.{Ran, ran}
use Rattle.stage.specs.Lanes.{SameMemory}
use Rattle.stage.specs.View.{lanes, units_of, world}
use Rattle.replay.proofs.write.make_calls.Given as goal

-- what is left of the calls gives what all of them give
abbrev pub invariant-loop-i : goal.invariant-loop-i
invariant-loop-i g l =
    let first = l.initial in
    let left : Ran = ran (length first.map) (g.S.Sink.rooms first.sink) (drop l.i l.calls) (world l.stage l.map (lanes l.log) (g.S.Sink.list l.sink)) in
    let all : Ran = ran (length first.map) (g.S.Sink.rooms first.sink) l.calls (world first.stage first.map (lanes first.log) (g.S.Sink.list first.sink)) in
    record {
      rooms : g.S.Sink.rooms l.sink ≡ g.S.Sink.rooms first.sink;
      memory : SameMemory l.log first.log;
      units : units_of l.stage ≡ units_of first.stage;
      behind : drop (units_of first.stage) l.map ≡ drop (units_of first.stage) first.map;
      world : left.world ≡ all.world;
      answers : take l.i l.answers ++ left.answers ≡ all.answers;
      rest : drop l.i l.answers ≡ drop l.i first.answers;
    }
