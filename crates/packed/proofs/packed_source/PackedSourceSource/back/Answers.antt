use Rattle.std.proofs.Common.{arith}
use Rattle.packed.proofs.Backwards.{before_here, counted_before, back_begins}
use Rattle.packed.proofs.Records.{here_within}
use Rattle.packed.proofs.packed_source.PackedSourceSource.back.Goals as goal

pub start_of_last-self-requires-clause-whole : goal.start_of_last-self-requires-clause-whole
start_of_last-self-requires-clause-whole c = let s = c.args.self.now in (before_here s.bytes.now s.place s.offset s.whole s.here).whole

pub start_of_last-self-requires-clause-inside : goal.start_of_last-self-requires-clause-inside
start_of_last-self-requires-clause-inside c = let s = c.args.self.now in omega (arith, counted_before s.bytes.now s.place s.offset s.whole s.here)

pub invariant_of-self : goal.invariant_of-self
invariant_of-self c =
    let s = c.args.self.now in
    let to = c.start_of_last-self.result in
    let here = back_begins s.bytes.now s.place s.offset c.args.p to s.whole s.here (omega (arith, c.if-p-self.false)) c.start_of_last-self.ensures in
    record { whole = s.whole; here = here; within = here_within s.bytes.now c.args.p to s.whole here }
