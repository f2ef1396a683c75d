use Rattle.stage.proofs.Vectors.{lowest_in_layout}
use Rattle.stage.proofs.state.vector.NMVComponent.class0.Goals as goal

pub invariant_of-result : goal.invariant_of-result
invariant_of-result c = record { there = lowest_in_layout c.args.self.base c.args.self.one }
