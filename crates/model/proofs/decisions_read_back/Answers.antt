use Rattle.std.proofs.Common.{ℕ, Bool, ℤ}
use Rattle.model.proofs.Trees.{reads_back}
use Rattle.model.proofs.decisions_read_back.Goals as goal

pub returns : goal.returns
returns c = record { numbers = reads_back ℕ; flags = reads_back Bool; pairs = reads_back (ℤ × ℤ) }
