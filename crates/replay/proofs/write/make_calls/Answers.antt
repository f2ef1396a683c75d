use Rattle.std.proofs.Common.{◌≡◌, length, arith, rules}
use Rattle.std.proofs.lemmas.Grind.{common_steps}
use Rattle.stage.specs.View.{lanes, units_of, world}
use Rattle.replay.proofs.Playing.{world_again, answers_again}
use Rattle.replay.proofs.Units.{step_units}
use Rattle.replay.proofs.write.make_calls.Goals as goal

pub loop-i-preserved : goal.loop-i-preserved
loop-i-preserved g c =
    let i = c.loop-i.i in
    let inv = c.loop-i.invariant in
    let made = c.make_call.ensures in
    let calls = c.args.calls.now in
    let w = world c.loop-i.stage c.loop-i.map (lanes c.loop-i.log) (g.S.Sink.list c.loop-i.sink) in
    let n = length c.args.map.now in
    let r = g.S.Sink.rooms c.args.sink.now in
    let same : units_of c.make_call.new.stage ≡ units_of c.loop-i.stage = step_units _ _ _ w made.step in
    record {
      rooms = cc;
      memory = search rules;
      units = cc;
      behind = cc;
      world = world_again n r calls i _ w (search rules) inv.rooms made.step (omega arith) inv.world;
      answers = answers_again n r calls i _ w (search rules) inv.rooms made.step (omega arith) c.loop-i.answers (omega arith) inv.answers;
      rest = grind (arith, common_steps, inv.rest);
    }
