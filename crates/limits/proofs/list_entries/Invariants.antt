use Rattle.std.specs.Prelude.{length}
use Rattle.limits.proofs.list_entries.Given as goal

abbrev pub decreases-loop-s : goal.decreases-loop-s
decreases-loop-s l = length l.rest
