use Rattle.std.proofs.Common.{ap, arith, length}
use Rattle.packed.specs.Packing.{unpacked}
use Rattle.packed.proofs.Records.{length-ends}
use Rattle.packed.proofs.packed_record.PackedRecordSink.count.Goals as goal

pub returns : goal.returns
returns c = let p = c.args.self.now in omega (arith, ap length p.ends_there, length-ends 0 (unpacked p.bytes.items))
