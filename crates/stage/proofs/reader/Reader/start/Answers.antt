use Rattle.std.proofs.Common.{ap}
use Rattle.stage.proofs.ReadCalls.{none_marked, no_lanes}
use Rattle.stage.proofs.reader.Reader.start.Goals as goal

pub invariant_of-result : goal.invariant_of-result
invariant_of-result c = record { closed = none_marked c.in_ok-stage.stage.journal (ap (λ w. w.marks) (c.in_ok-stage.ensures.fresh no_lanes)) }

pub returns-clause-fresh : goal.returns-clause-fresh
returns-clause-fresh c = ap (λ w. w.core.state) (c.in_ok-stage.ensures.fresh no_lanes)
