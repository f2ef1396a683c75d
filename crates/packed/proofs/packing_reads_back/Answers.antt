use Rattle.std.proofs.Common.{refl}
use Rattle.packed.specs.Packing.{packed}
use Rattle.packed.proofs.Unpacking.{unpacked_packed, holds}
use Rattle.packed.proofs.packing_reads_back.Goals as goal

pub returns : goal.returns
returns c = record { entries = unpacked_packed; bytes = λ bs w. w.packs; whole = λ l h. (holds (packed l) l h refl).whole }
