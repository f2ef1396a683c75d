use Rattle.std.proofs.Common.{[], ◌∷◌, ◌∙◌}
use Rattle.std.specs.Iterator.Adapters.{rev_source}
use Rattle.std.specs.Slice.Iter.{iter_rest}
use Rattle.std.proofs.lemmas.List.{nil_from_length}
use Rattle.journal.specs.Walks.{visited}
use Rattle.journal.proofs.Walking.{visited_part, undone_append, logged_back}
use Rattle.journal.proofs.walk.undo.Goals as goal

pub loop-record-preserved : goal.loop-record-preserved
loop-record-preserved g c =
    let step = undone_append g.R.UndoRecord.restored (iter_rest (rev_source c.next.new.self)) (c.in-Some.record.now ∷ []) c.loop-record.target in
    rw (c.put_back.ensures, ← step, ← c.in-Some.ensures.steps) c.loop-record.invariant

pub returns-clause-state : goal.returns-clause-state
returns-clause-state g c =
    let none = nil_from_length (iter_rest (rev_source c.loop-record.record-iterator)) c.in-None.ensures.steps.0 in
    let all = visited_part c.args.lane.now c.args.from c.args.upto c.min.result c.min-end.result c.min-end.ensures c.min.ensures in
    rw (none, all) at c.loop-record.invariant

pub returns-clause-back : goal.returns-clause-back
returns-clause-back g c t h =
    returns-clause-state g c ∙ logged_back g.R.UndoRecord.laws (visited c.args.from c.args.upto c.args.lane.now) t c.args.target.now h
