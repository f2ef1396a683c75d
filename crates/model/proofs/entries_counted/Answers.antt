use Rattle.model.proofs.Facts.{counted}
use Rattle.model.proofs.entries_counted.Goals as goal

pub returns : goal.returns
returns c = counted
