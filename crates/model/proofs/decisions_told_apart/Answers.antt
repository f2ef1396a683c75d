use Rattle.std.proofs.Common.{ℕ, Bool, ℤ}
use Rattle.model.proofs.Trees.{tells_apart}
use Rattle.model.proofs.decisions_told_apart.Goals as goal

pub returns : goal.returns
returns c = record { numbers = tells_apart ℕ; flags = tells_apart Bool; pairs = tells_apart (ℤ × ℤ) }
