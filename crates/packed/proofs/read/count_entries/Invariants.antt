use Rattle.std.proofs.Common.{length}
use Rattle.packed.proofs.Checking.{Sofar}
use Rattle.packed.proofs.read.count_entries.Given as goal

abbrev pub invariant-loop-rest : goal.invariant-loop-rest
invariant-loop-rest l = Sofar l.bytes l.rest l.count

abbrev pub decreases-loop-rest : goal.decreases-loop-rest
decreases-loop-rest l = length l.rest
