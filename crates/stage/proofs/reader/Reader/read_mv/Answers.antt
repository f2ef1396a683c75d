use Rattle.std.proofs.Common.{length, Err, refl, ◌∙◌}
use Rattle.model.specs.declared.Question.TheVariants as question
use Rattle.stage.specs.Faults.{fault_of, stop_of}
use Rattle.stage.specs.View.{state_of}
use Rattle.stage.proofs.ReadBlocks.{accepted_read, back_state, faulty_read, from_start, read_state}
use Rattle.stage.proofs.reader.Reader.read_mv.Goals as goal

pub returns-in-Ok-clause-step : goal.returns-in-Ok-clause-step
returns-in-Ok-clause-step g c memory =
    let s = c.args.self.now.stage in
    accepted_read (length memory) (g.Q.Source.list c.args.source.now) (question.Vector c.args.precision) (state_of s memory) (g.Q.Source.place c.args.source.now) c.in-Ok.vector
    c.decode_mv.new.self.stage.tables.words _ _ _ refl (from_start c.in-Ok.ensures c.place-start.ensures)
    (read_state c.decode_mv.new.self.stage s memory c.in-Ok.ensures.kept)

pub returns-in-Err-clause-step : goal.returns-in-Err-clause-step
returns-in-Err-clause-step g c memory =
    let s = c.args.self.now.stage in
    let same = back_state s c.decode_mv.new.self.stage c.go_back.new.self.stage memory c.in-Err.ensures.kept c.go_back.ensures.kept c.go_back.ensures.tables in
    let place = c.go_back.ensures.place ∙ c.place-start.ensures in
    (λ i. (Err (stop_of (c.from.ensures i)), same i, place i))
    ∙ faulty_read (length memory) (g.Q.Source.list c.args.source.now) (question.Vector c.args.precision) (state_of s memory) (g.Q.Source.place c.args.source.now) (fault_of c.in-Err.fault)
    refl (from_start c.in-Err.ensures c.place-start.ensures)
