use Rattle.model.proofs.Facts.{reads_sound, faults}
use Rattle.model.proofs.reads_keep_sound.Goals as goal

pub returns : goal.returns
returns c = record { reads_sound = reads_sound; faults = faults }
