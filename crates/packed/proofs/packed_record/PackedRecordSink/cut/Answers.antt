use Rattle.std.proofs.Common.{sym, ◌∙◌, arith}
use Rattle.packed.proofs.Records.{here_from_end, cut_holds, cut_ends, cut_list_is}
use Rattle.packed.specs.Packing.{unpacked}
use Rattle.packed.proofs.packed_record.PackedRecordSink.cut.Goals as goal

pub invariant_of-self : goal.invariant_of-self
invariant_of-self c =
    let p = c.args.self.now in
    let here = here_from_end p.bytes.items c.args.n c.in_ok-end.end (sym c.in_ok-end.ensures.ok_part ∙ c.end.ensures.value) in
    record {
      whole = (cut_holds p.bytes.items c.truncate.new.self.items c.args.n c.in_ok-end.end p.whole here c.truncate.ensures.items).whole;
      ends_there = c.truncate-2.ensures.items ∙ cut_ends p.bytes.items c.truncate.new.self.items p.ends.items c.args.n c.in_ok-end.end p.whole here c.truncate.ensures.items p.ends_there;
      within = omega (arith, c.truncate.ensures.len, p.within);
      reserved = (omega (arith, c.truncate.ensures.capacity, p.reserved.0), omega (arith, c.truncate-2.ensures.capacity, p.reserved.1));
      most = p.most;
    }

pub returns-clause-list : goal.returns-clause-list
returns-clause-list c =
    let p = c.args.self.now in
    let here = here_from_end p.bytes.items c.args.n c.in_ok-end.end (sym c.in_ok-end.ensures.ok_part ∙ c.end.ensures.value) in
    (cut_holds p.bytes.items c.truncate.new.self.items c.args.n c.in_ok-end.end p.whole here c.truncate.ensures.items).list
    ∙ cut_list_is (unpacked p.bytes.items) c.args.n here.inside
