use Rattle.std.proofs.Common.{rules, ◌≡◌, ◌-◌, ◌/◌, true, ap, ◌∙◌, ◌++◌, ◌∷◌, [], arith, length}
use Rattle.std.proofs.lemmas.List.{length-append}
use Rattle.cdf.specs.Entries.{is_entry}
use Rattle.packed.specs.Laws.{entry_most, packed_least}
use Rattle.packed.specs.Packing.{packed_entry, packed, unpacked}
use Rattle.packed.proofs.Records.{length-ends, put_holds, put_ends, put_list_is}
use Rattle.packed.proofs.packed_record.PackedRecordSink.put.Goals as goal

pub push_reserved-requires : goal.push_reserved-requires
push_reserved-requires c =
    let p = c.args.self.now in
    let l = unpacked p.bytes.items in
    omega (arith, ap length p.ends_there, length-ends 0 l, packed_least l, ap length p.whole.packs)

pub invariant_of-self-2 : goal.invariant_of-self-2
invariant_of-self-2 c =
    let p = c.args.self.now in
    let e = c.args.e in
    let h : is_entry e ≡ true = search rules in
    let put = c.push_entry.ensures.items in
    let more = ap length put ∙ length-append p.bytes.items (packed_entry e) in
    let size : c.len-2.result ≡ length c.push_entry.new.bytes.items = omega (arith, c.len-2.ensures) in
    record {
      whole = (put_holds p.bytes.items c.push_entry.new.bytes.items e p.whole h put).whole;
      ends_there = c.push_reserved.ensures.items ∙ ap (λ n. p.ends.items ++ n ∷ []) size ∙ put_ends p.bytes.items c.push_entry.new.bytes.items p.ends.items e p.whole h put p.ends_there;
      within = omega (arith, more, entry_most e h);
      reserved = (omega (arith, c.push_entry.ensures.capacity, p.reserved.0), omega (arith, c.push_reserved.ensures.capacity, p.reserved.1));
      most = p.most;
    }

pub returns-clause-list : goal.returns-clause-list
returns-clause-list c =
    let p = c.args.self.now in
    let l = unpacked p.bytes.items in
    let h : is_entry c.args.e ≡ true = search rules in
    (put_holds p.bytes.items c.push_entry.new.bytes.items c.args.e p.whole h c.push_entry.ensures.items).list
    ∙ put_list_is l c.args.e ((p.places - length (packed l)) / 8) h (omega (arith, ap length p.whole.packs))
