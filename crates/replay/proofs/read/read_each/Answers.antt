use Rattle.std.proofs.Common.{◌≡◌, length, sym, ◌∙◌, arith, rules}
use Rattle.std.proofs.lemmas.Grind.{common_steps}
use Rattle.model.proofs.ReadSteps.{reads_by_step}
use Rattle.replay.specs.Reads.{state_read, units_read}
use Rattle.replay.proofs.Reading.{answered_more, refused_here, all_answered, stands_more}
use Rattle.replay.proofs.Units.{read_units}
use Rattle.replay.proofs.read.read_each.Goals as goal

pub returns-in-Err-clause-reading : goal.returns-in-Err-clause-reading
returns-in-Err-clause-reading g c =
    let es = g.Q.Source.list c.args.source.now in
    let qs = c.args.questions.now in
    let n = length c.args.map.now in
    let inv = c.loop-i.invariant in
    let here = state_read c.loop-i.reader c.loop-i.map in
    refused_here n es qs c.loop-i.i c.loop-i.answers here (g.Q.Source.place c.loop-i.source) _ (search rules) inv.list (omega arith) inv.left _ c.in-Err.why _ _ _ (c.in-Err.ensures.list ∙ inv.list) c.in-Err.ensures.step
    ∙ sym (reads_by_step n es qs (state_read c.args.reader.now c.args.map.now) (g.Q.Source.place c.args.source.now))

pub loop-i-preserved : goal.loop-i-preserved
loop-i-preserved g c =
    let es = g.Q.Source.list c.args.source.now in
    let qs = c.args.questions.now in
    let n = length c.args.map.now in
    let inv = c.loop-i.invariant in
    let here = state_read c.loop-i.reader c.loop-i.map in
    let p = g.Q.Source.place c.loop-i.source in
    let same : units_read c.read_call.new.reader ≡ units_read c.loop-i.reader = read_units _ _ _ here p c.in-Ok.ensures.step in
    record {
      list = c.in-Ok.ensures.list ∙ inv.list;
      units = same ∙ inv.units;
      behind = cc;
      stands = stands_more c.loop-i.answers c.loop-i.i c.in-Ok.answer (omega arith) inv.stands c.in-Ok.ensures.stands;
      rest = grind (arith, common_steps, inv.rest);
      left = answered_more n es qs c.loop-i.i c.loop-i.answers here p _ (search rules) inv.list (omega arith) inv.left _ c.in-Ok.answer _ _ (omega arith) c.in-Ok.ensures.step;
    }

pub returns-clause-reading : goal.returns-clause-reading
returns-clause-reading g c =
    let es = g.Q.Source.list c.args.source.now in
    let qs = c.args.questions.now in
    let n = length c.args.map.now in
    let inv = c.loop-i.invariant in
    all_answered n es qs c.loop-i.i c.loop-i.answers (state_read c.loop-i.reader c.loop-i.map) (g.Q.Source.place c.loop-i.source) _ _ (omega arith) inv.list inv.left
    ∙ sym (reads_by_step n es qs (state_read c.args.reader.now c.args.map.now) (g.Q.Source.place c.args.source.now))
