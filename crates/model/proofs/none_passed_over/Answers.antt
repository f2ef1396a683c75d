use Rattle.model.proofs.Staged.{stage_none_passed}
use Rattle.model.proofs.none_passed_over.Goals as goal

pub returns : goal.returns
returns c = stage_none_passed
