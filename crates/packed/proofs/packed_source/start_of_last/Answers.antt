use Rattle.std.proofs.Common.{rules, ◌≡◌, ◌*◌, ◌-◌, ◌≤◌, ◌<◌, [], length, ap, arith}
use Rattle.std.proofs.lemmas.List.{nil_from_length}
use Rattle.packed.specs.Laws.{packed_least}
use Rattle.packed.specs.Packing.{unpacked}
use Rattle.packed.proofs.Backwards.{from_the_end, over_a_last, over_another, stop_at_a_last, stop_at_the_front}
use Rattle.packed.proofs.packed_source.start_of_last.Goals as goal

pub overflow_mul-numbers : goal.overflow_mul-numbers
overflow_mul-numbers c =
    let few : 4 * c.args.n ≤ length c.args.bytes.now = omega (arith, c.requires.inside, packed_least (unpacked c.args.bytes.now), ap length c.requires.whole.packs) in
    search rules

pub loop-byte-init : goal.loop-byte-init
loop-byte-init c = from_the_end c.args.bytes.now c.args.n c.requires.whole c.requires.inside

pub loop-byte-preserved : goal.loop-byte-preserved
loop-byte-preserved c = over_another c.args.bytes.now c.loop-byte.front.now c.in-Some.rest.now c.in-Some.byte.now (length (unpacked c.args.bytes.now) - c.args.n) c.loop-byte.numbers c.loop-byte.invariant c.in-Some.ensures.cases.0 c.if-byte-lt128.false

pub loop-byte-preserved-else-numbers-eq0 : goal.loop-byte-preserved-else-numbers-eq0
loop-byte-preserved-else-numbers-eq0 c =
    let more : 0 < c.loop-byte.numbers = omega (arith, c.if-numbers-eq0.false) in
    over_a_last c.args.bytes.now c.loop-byte.front.now c.in-Some.rest.now c.in-Some.byte.now (length (unpacked c.args.bytes.now) - c.args.n) c.loop-byte.numbers c.loop-byte.invariant c.in-Some.ensures.cases.0 c.if-byte-lt128.true more

pub returns-then-numbers-eq0 : goal.returns-then-numbers-eq0
returns-then-numbers-eq0 c =
    stop_at_a_last c.args.bytes.now c.loop-byte.front.now c.in-Some.rest.now c.in-Some.byte.now c.args.n c.loop-byte.numbers c.requires.whole c.requires.inside c.loop-byte.invariant c.if-numbers-eq0.true c.in-Some.ensures.cases.0 c.if-byte-lt128.true

pub returns : goal.returns
returns c =
    let none : c.loop-byte.front.now ≡ [] = nil_from_length c.loop-byte.front.now c.in_default.ensures.cases in
    stop_at_the_front c.args.bytes.now c.args.n c.loop-byte.numbers (rw none at c.loop-byte.invariant)
