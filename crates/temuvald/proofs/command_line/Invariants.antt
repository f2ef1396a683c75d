use Rattle.std.specs.Prelude.{length}
use Rattle.temuvald.proofs.command_line.Given as goal

abbrev pub decreases-loop-arg : goal.decreases-loop-arg
decreases-loop-arg l = length l.args.rest.items
