use Rattle.model.proofs.Examples.{works, starts_sound}
use Rattle.model.proofs.Facts.{short_runs}
use Rattle.model.proofs.worked_examples.Goals as goal

pub returns : goal.returns
returns c = record { worked = works; starts_sound = starts_sound; short_run = short_runs }
