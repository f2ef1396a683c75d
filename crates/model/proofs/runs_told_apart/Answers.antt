use Rattle.model.proofs.Staged.{stage_tells_apart}
use Rattle.model.proofs.runs_told_apart.Goals as goal

pub returns : goal.returns
returns c = stage_tells_apart
