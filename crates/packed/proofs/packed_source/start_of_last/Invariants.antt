use Rattle.std.proofs.Common.{◌-◌, length}
use Rattle.packed.specs.Packing.{unpacked}
use Rattle.packed.proofs.Backwards.{Backwards}
use Rattle.packed.proofs.packed_source.start_of_last.Given as goal

abbrev pub invariant-loop-byte : goal.invariant-loop-byte
invariant-loop-byte l = Backwards l.bytes l.front (length (unpacked l.bytes) - l.fn.n) l.numbers

abbrev pub decreases-loop-byte : goal.decreases-loop-byte
decreases-loop-byte l = length l.front
