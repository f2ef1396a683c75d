use Rattle.std.proofs.Common.{rules, ◌≡◌, ◌<◌, [], length, refl, ◌-◌}
use Rattle.std.proofs.lemmas.List.{nil_from_length}
use Rattle.packed.proofs.Checking.{one_more, fewer, count_fits, all_gone, fails, packed_passes}
use Rattle.packed.proofs.read.count_entries.Goals as goal

pub loop-rest-preserved : goal.loop-rest-preserved
loop-rest-preserved c = let p = c.in-Some.ensures in one_more c.args.bytes.now c.loop-rest.rest.now c.in-Some.behind.now c.loop-rest.count c.in-Some.field-0-0 c.loop-rest.invariant p.0 p.1

pub loop-rest-smaller : goal.loop-rest-smaller
loop-rest-smaller c = fewer c.loop-rest.rest.now c.in-Some.behind.now c.in-Some.field-0-0 c.in-Some.ensures.1

pub returns-in_default-clause-value : goal.returns-in_default-clause-value
returns-in_default-clause-value c =
    let more : 0 < length c.loop-rest.rest.now = search rules in
    (length c.args.bytes.now - length c.loop-rest.rest.now, refl, fails c.args.bytes.now c.loop-rest.rest.now c.loop-rest.count c.loop-rest.invariant more c.in_default.ensures)

pub returns-in_default-clause-packings : goal.returns-in_default-clause-packings
returns-in_default-clause-packings c l h p =
    let more : 0 < length c.loop-rest.rest.now = search rules in
    absurd (packed_passes c.args.bytes.now (length c.args.bytes.now - length c.loop-rest.rest.now) l (fails c.args.bytes.now c.loop-rest.rest.now c.loop-rest.count c.loop-rest.invariant more c.in_default.ensures) h p)

pub overflow_add-count : goal.overflow_add-count
overflow_add-count c = let few = count_fits c.args.bytes.now c.loop-rest.rest.now c.loop-rest.count c.loop-rest.invariant in search rules

pub returns-clause-value : goal.returns-clause-value
returns-clause-value c =
    let none : c.loop-rest.rest.now ≡ [] = nil_from_length c.loop-rest.rest.now (search rules) in
    all_gone c.args.bytes.now c.loop-rest.count (rw none at c.loop-rest.invariant)
