use Rattle.std.proofs.Common.{◌≡◌, ◌*◌, length, drop, sym, ap, ◌∙◌, arith, rules}
use Rattle.std.proofs.lemmas.Grind.{common_steps}
use Rattle.model.specs.Decisions.{stage, units}
use Rattle.model.specs.Runs.{reads}
use Rattle.model.specs.Worked.{start}
use Rattle.model.proofs.Examples.{starts_sound}
use Rattle.replay.specs.Reads.{reading_of, state_read, units_read}
use Rattle.replay.proofs.Reading.{reads_back, start_columns, start_mapped}
use Rattle.replay.proofs.read.read_calls.Goals as goal

pub returns-clause-back : goal.returns-clause-back
returns-clause-back g c zero =
    let from = start c.args.columns c.args.rows c.args.last in
    let es = g.Q.Source.list c.args.source.now in
    let qs = c.args.questions.now in
    let n = length c.args.map.now in
    let asked = sym c.in_ok-reader.ensures.asked in
    let then = state_read c.read_each-stop.new.reader c.read_each-stop.new.map in
    let end = g.Q.Source.place c.read_each-stop.new.source in
    let p = g.Q.Source.place c.args.source.now in
    let reading : reading_of (length qs) c.read_each-stop.result c.read_each-stop.new.answers then es end ≡ reads stage n from qs (drop p es) p = search rules in
    reads_back n from es qs _ _ _ (starts_sound c.args.columns c.args.rows c.args.last n asked) (start_mapped c.args.columns c.args.rows c.args.last n asked) c.read_each-stop.result
    (reading ∙ ap (λ k. reads stage n from qs (drop k es) k) zero)

pub returns-clause-behind : goal.returns-clause-behind
returns-clause-behind g c =
    let same : units_read c.in_ok-reader.reader ≡ c.args.columns * c.args.rows = ap units c.in_ok-reader.ensures.fresh ∙ start_columns c.args.columns c.args.rows c.args.last in
    grind (arith, common_steps, same, c.read_each-stop.ensures.behind)
