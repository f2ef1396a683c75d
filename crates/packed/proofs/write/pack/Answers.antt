use Rattle.std.proofs.Common.{◌<◌, ◌++◌, length, List, ap, sym, ◌∙◌, arith}
use Rattle.cdf.specs.declared.entry.Entry.{Entry}
use Rattle.packed.specs.Packing.{packed_entry}
use Rattle.packed.proofs.Packs.{entry_here, one_packed, one_fits}
use Rattle.packed.proofs.write.pack.Goals as goal
use Rattle.packed.proofs.write.pack.Goals.{in-Ok, in_default}

pub push_entry-requires : goal.push_entry-requires
push_entry-requires g c =
    let l : List Entry = g.S.Sink.list c.args.sink.now in
    let here : c.loop-i.i < length l = omega (arith, c.count-i-end.ensures) in
    omega (arith, ap length c.loop-i.invariant.gone, one_fits l c.loop-i.i c.in-Ok.e here (sym c.entry.ensures ∙ c.in-Ok.is), c.loop-i.invariant.reserved)

pub loop-i-preserved : goal.loop-i-preserved
loop-i-preserved g c =
    let l : List Entry = g.S.Sink.list c.args.sink.now in
    let here : c.loop-i.i < length l = omega (arith, c.count-i-end.ensures) in
    elim c.match-entry.branch [
      | in-Ok w ↦ record {
        gone = rw w.bytes-is (w.push_entry.ensures.items ∙ ap (λ bs. bs ++ packed_entry w.in-Ok.e) c.loop-i.invariant.gone ∙ sym (one_packed l c.loop-i.i w.in-Ok.e here (sym c.entry.ensures ∙ w.in-Ok.is)));
        reserved = rw w.bytes-is (omega (arith, w.push_entry.ensures.capacity, c.loop-i.invariant.reserved));
      }
      | in_default w ↦ absurd (w.in_default.not-Ok _ (c.entry.ensures ∙ entry_here l c.loop-i.i here))
    ]
