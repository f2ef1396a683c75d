use Rattle.model.proofs.Staged.{leads}
use Rattle.model.proofs.accepted_decisions_lead.Goals as goal

pub returns : goal.returns
returns c = leads
