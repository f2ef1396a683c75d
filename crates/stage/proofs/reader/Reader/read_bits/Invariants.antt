use Rattle.std.proofs.Common.{◌-◌, ◌^◌, ◌<◌, ◌≤◌}
use Rattle.stage.specs.Reads.{point}
use Rattle.stage.proofs.ReadBits.{Left, bits_from}
use Rattle.stage.proofs.reader.Reader.read_bits.Given as goal

abbrev pub invariant-loop-i : goal.invariant-loop-i
invariant-loop-i g l =
    record {
      counted : l.i ≤ l.n;
      left : Left l.start (bits_from l.first 0 l.n 0) (point l.initial.self.stage (g.Q.Source.list l.initial.source) (g.Q.Source.place l.initial.source))
          (bits_from l.first l.i (l.n - l.i) l.bits) (point l.self.stage (g.Q.Source.list l.source) (g.Q.Source.place l.source));
      below : l.bits < 2 ^ l.i;
    }
