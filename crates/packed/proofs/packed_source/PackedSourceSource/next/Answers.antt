use Rattle.std.proofs.Common.{rules, ◌*◌, ◌≤◌, length, sym, ◌∙◌, ap, subst, refl, arith}
use Rattle.std.proofs.lemmas.Bool.{true≢false}
use Rattle.packed.specs.Packing.{unpacked, NoEntry}
use Rattle.packed.specs.Laws.{packed_least}
use Rattle.packed.proofs.Records.{part_rest, next_none, next_unfit, next_fits, next_begins}
use Rattle.packed.proofs.packed_source.PackedSourceSource.next.Goals as goal

pub returns-in_default : goal.returns-in_default
returns-in_default c =
    let s = c.args.self.now in
    let none = subst NoEntry (part_rest s.bytes.now s.bytes.now s.offset refl) c.in_default.ensures in
    let n = next_none s.bytes.now c.args.table.now s.place s.offset s.whole s.here none in
    record { answer = n.0; list = refl; place = n.1; still = λ h. refl }

pub returns-then-not-fits : goal.returns-then-not-fits
returns-then-not-fits c =
    let s = c.args.self.now in
    let part = sym (part_rest s.bytes.now s.bytes.now s.offset refl) ∙ c.in-Some.ensures.1 in
    let n = next_unfit s.bytes.now c.in-Some.rest.now c.args.table.now s.place s.offset c.in-Some.entry s.whole s.here c.in-Some.ensures.0 part (search rules) in
    record { answer = n.0; list = refl; place = n.1; still = λ h. refl }

pub overflow_add-self : goal.overflow_add-self
overflow_add-self c =
    let s = c.args.self.now in
    let few : 4 * s.place ≤ length s.bytes.now = omega (arith, s.here.inside, packed_least (unpacked s.bytes.now), ap length s.whole.packs) in
    search rules

pub invariant_of-self : goal.invariant_of-self
invariant_of-self c =
    let s = c.args.self.now in
    let part = sym (part_rest s.bytes.now s.bytes.now s.offset refl) ∙ c.in-Some.ensures.1 in
    record { whole = s.whole; here = next_begins s.bytes.now c.in-Some.rest.now s.place s.offset c.in-Some.entry s.whole s.here c.in-Some.ensures.0 part; within = omega arith }

pub returns : goal.returns
returns c =
    let s = c.args.self.now in
    let part = sym (part_rest s.bytes.now s.bytes.now s.offset refl) ∙ c.in-Some.ensures.1 in
    let n = next_fits s.bytes.now c.in-Some.rest.now c.args.table.now s.place s.offset c.in-Some.entry s.whole s.here c.in-Some.ensures.0 part (search rules) in
    record { answer = n.0; list = refl; place = n.1; still = λ h. absurd (true≢false h) }
