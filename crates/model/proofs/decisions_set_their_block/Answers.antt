use Rattle.model.proofs.Blocks.{skip_set, segment_set}
use Rattle.model.proofs.decisions_set_their_block.Goals as goal

pub returns : goal.returns
returns c = record { skip_set = skip_set; segment_set = segment_set }
