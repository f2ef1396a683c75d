use Rattle.std.proofs.Common.{◌≡◌, suc, length, ap, ◌∙◌, arith}
use Rattle.packed.specs.Packing.{unpacked}
use Rattle.packed.proofs.Records.{length-ends, end_at_0, end_past, end_there, here_from_end, here_within}
use Rattle.packed.proofs.packed_record.PackedRecord.end.Goals as goal

pub returns-in-None-clause-value : goal.returns-in-None-clause-value
returns-in-None-clause-value c = end_at_0 (unpacked c.args.self.now.bytes.items) c.args.n (omega (arith, c.in-None.ensures))

pub returns-in_err-get-in-Some-clause-value : goal.returns-in_err-get-in-Some-clause-value
returns-in_err-get-in-Some-clause-value c =
    let p = c.args.self.now in
    let l = unpacked p.bytes.items in
    let few = c.in_err-get-in-Some.ensures.lookup in
    c.from_residual.ensures ∙ end_past l c.args.n (omega (arith, few.3, ap length c.deref.ensures.value, ap length p.ends_there, length-ends 0 l, c.in-Some.ensures))

pub returns-in_ok-get-in-Some-clause-value : goal.returns-in_ok-get-in-Some-clause-value
returns-in_ok-get-in-Some-clause-value c =
    let p = c.args.self.now in
    let l = unpacked p.bytes.items in
    let there = c.in_ok-get-in-Some.ensures.lookup in
    let n : c.args.n ≡ suc c.in-Some.last = omega (arith, c.in-Some.ensures) in
    end_there l c.deref.result.now c.args.n c.in-Some.last c.in_ok-get-in-Some.field-0.now (c.deref.ensures.value ∙ p.ends_there) n
    (omega (arith, there.3.0, ap length c.deref.ensures.value, ap length p.ends_there, length-ends 0 l)) (there.3.1 0)

pub returns-in_ok-get-in-Some-clause-inside : goal.returns-in_ok-get-in-Some-clause-inside
returns-in_ok-get-in-Some-clause-inside c =
    let p = c.args.self.now in
    let here = here_from_end p.bytes.items c.args.n c.in_ok-get-in-Some.field-0.now (returns-in_ok-get-in-Some-clause-value c) in
    omega (arith, here_within p.bytes.items c.args.n c.in_ok-get-in-Some.field-0.now p.whole here)
