use Rattle.std.proofs.Common.{◌≡◌}
use Rattle.std.specs.Iterator.Adapters.{rev_source}
use Rattle.std.specs.Slice.Iter.{iter_rest}
use Rattle.journal.specs.Walks.{undone}
use Rattle.journal.proofs.walk.undo.Given as goal

abbrev pub invariant-loop-record : goal.invariant-loop-record
invariant-loop-record g l =
    let put = g.R.UndoRecord.restored in
    undone put (iter_rest (rev_source l.record-iterator)) l.target ≡ undone put l.records l.initial.target
