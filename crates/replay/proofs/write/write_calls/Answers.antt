use Rattle.std.proofs.Common.{◌++◌, length, drop, sym, ap, ◌∙◌, arith, rules}
use Rattle.std.proofs.lemmas.Grind.{common_steps}
use Rattle.model.specs.Decisions.{Sound}
use Rattle.model.specs.Worked.{start}
use Rattle.model.proofs.Examples.{starts_sound}
use Rattle.replay.specs.Runs.{Ran, started}
use Rattle.stage.specs.View.{lanes}
use Rattle.replay.proofs.Traces.{front_answers, is_refused_where_asked, from_start, start_units, leaves_no_trace, has_outcome, is_told_apart}
use Rattle.replay.proofs.write.write_calls.Goals as goal

pub returns : goal.returns
returns g c =
    let from = start c.args.columns c.args.rows c.args.last in
    let lent = lanes c.args.log.now in
    let es = g.S.Sink.list c.args.sink.now in
    let room = g.S.Sink.rooms c.args.sink.now in
    let n = length c.args.map.now in
    let calls = c.args.calls.now in
    let rest = drop (length calls) c.args.answers.now in
    let fresh = c.in_ok-stage.ensures.fresh lent in
    let made = c.make_calls.ensures in
    let begins = from_start room from c.in_ok-stage.stage c.start.new.map lent es calls {n = n} (search rules) fresh in
    let ends = ap (λ (r : Ran). r.world) (sym begins) ∙ sym made.world in
    let answers = made.answers ∙ ap (λ (r : Ran). r.answers ++ rest) begins in
    let told = front_answers n room calls (started from lent es) c.make_calls.new.answers rest answers in
    let sound : Sound from = starts_sound c.args.columns c.args.rows c.args.last n (sym c.in_ok-stage.ensures.asked) in
    let same = start_units c.args.columns c.args.rows c.args.last c.in_ok-stage.stage c.start.new.map lent fresh in
    record {
      asked = search rules;
      world = sym ends;
      answers = answers;
      refused = is_refused_where_asked n room calls (started from lent es) told;
      trace = λ empty. leaves_no_trace n room from lent es calls told ends empty sound;
      outcome = λ empty. has_outcome n room from lent es calls told ends empty;
      apart = λ empty. is_told_apart n room from lent es calls told ends empty sound;
      behind = grind (arith, common_steps, same, made.behind);
      rooms = made.rooms;
      memory = made.memory;
      still = search rules;
    }
