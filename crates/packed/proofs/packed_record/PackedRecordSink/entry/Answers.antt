use Rattle.std.proofs.Common.{◌≡◌, sym, ◌∙◌, subst}
use Rattle.std.proofs.lemmas.Result.{err_from_is_err_and}
use Rattle.av1.specs.declared.refusal.Refusal.TheVariants as no
use Rattle.packed.specs.Packing.{NoEntry}
use Rattle.packed.proofs.Records.{here_from_end, no_answer, an_answer, part_rest}
use Rattle.packed.proofs.packed_record.PackedRecordSink.entry.Goals as goal

pub returns-in_err-entry : goal.returns-in_err-entry
returns-in_err-entry c =
    let p = c.args.self.now in
    let here = here_from_end p.bytes.items c.args.i c.in_ok-start.start (sym c.in_ok-start.ensures.ok_part ∙ c.end.ensures.value) in
    let part = part_rest p.bytes.items c.deref.result.now c.in_ok-start.start c.deref.ensures.value in
    let none = subst NoEntry part (rw c.in_err-entry.ensures.ok_part at c.split_entry.ensures) in
    let refused = rw c.in_err-entry.ensures.ok_part at c.in_err-entry.ensures.value in
    let x = err_from_is_err_and c.from_residual-in_err-entry.result c.from_residual-in_err-entry.ensures.1 in
    let why : c.in_err-entry.field-0.0 ≡ no.NoSuchEntry = cc refused in
    rw (x.1, x.2, why) (no_answer p.bytes.items c.args.i c.in_ok-start.start p.whole here none)

pub returns : goal.returns
returns c =
    let p = c.args.self.now in
    let here = here_from_end p.bytes.items c.args.i c.in_ok-start.start (sym c.in_ok-start.ensures.ok_part ∙ c.end.ensures.value) in
    let part = part_rest p.bytes.items c.deref.result.now c.in_ok-start.start c.deref.ensures.value in
    let some = rw c.in_ok-entry.ensures.ok_part at c.split_entry.ensures in
    an_answer p.bytes.items c.in_ok-entry.field-0-1.now c.args.i c.in_ok-start.start c.in_ok-entry.entry p.whole here some.0 (sym part ∙ some.1)
