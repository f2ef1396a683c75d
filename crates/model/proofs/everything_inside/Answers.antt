use Rattle.model.proofs.TreeTables.{trees_in_layout}
use Rattle.model.proofs.Facts.{spots_inside}
use Rattle.model.proofs.everything_inside.Goals as goal

pub returns : goal.returns
returns c = record { trees_in_layout = trees_in_layout; spots_inside = spots_inside }
