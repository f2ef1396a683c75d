use Rattle.model.proofs.ReadSteps.{reads_by_step}
use Rattle.model.proofs.reads_go_by_step.Goals as goal

pub returns : goal.returns
returns c = reads_by_step
