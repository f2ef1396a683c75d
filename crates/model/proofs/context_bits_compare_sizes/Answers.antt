use Rattle.model.proofs.Facts.{context_bits}
use Rattle.model.proofs.context_bits_compare_sizes.Goals as goal

pub returns : goal.returns
returns c = context_bits
