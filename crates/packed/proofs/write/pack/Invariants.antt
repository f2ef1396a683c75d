use Rattle.std.proofs.Common.{◌≡◌, length, take, vec_capacity}
use Rattle.packed.specs.Packing.{packed}
use Rattle.packed.proofs.write.pack.Given as goal

abbrev pub invariant-loop-i : goal.invariant-loop-i
invariant-loop-i g l =
    record {
      gone : l.bytes.items ≡ packed (take l.i (g.S.Sink.list l.sink));
      reserved : vec_capacity l.bytes ≡ length (packed (g.S.Sink.list l.sink));
    }
