use Rattle.std.proofs.Common.{arith}
use Rattle.model.proofs.TreeTables.{segment_in_layout}
use Rattle.stage.proofs.state.Stage.code_segment.Goals as goal

pub invariant_of-symbol : goal.invariant_of-symbol
invariant_of-symbol g c = record { there = segment_in_layout c.args.number (omega (arith, c.requires.number)) }
