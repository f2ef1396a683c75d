use Rattle.packed.proofs.Unpacking.{no_fourth, found, same_byte}
use Rattle.packed.proofs.read.split_entry.Goals as goal

pub returns-in_err-fh : goal.returns-in_err-fh
returns-in_err-fh c =
    let s = c.in_ok-s.ensures in
    let n = c.in_ok-n.ensures in
    let fl = c.in_ok-fl.ensures in
    rw c.from_residual-in_err-fh.ensures
    (no_fourth c.args.bytes.now c.in_ok-s.rest.now c.in_ok-n.rest.now c.in_ok-fl.rest.now c.in_ok-s.s c.in_ok-n.n c.in_ok-fl.fl s.0 n.0 fl.0 s.1 n.1 fl.1 c.in_err-fh.ensures)

pub returns : goal.returns
returns c =
    let s = same_byte c.try_from.result _ c.in_ok-s.s c.in_ok-s-2.s c.try_from.ensures c.in_ok-s-2.ensures.value in
    let n = same_byte c.try_from-2.result _ c.in_ok-n.n c.in_ok-n-2.n c.try_from-2.ensures c.in_ok-n-2.ensures.value in
    rw c.then_some.ensures
    (found c.args.bytes.now c.in_ok-s.rest.now c.in_ok-n.rest.now c.in_ok-fl.rest.now c.in_ok-fh.rest (record { s = c.in_ok-s-2.s; n = c.in_ok-n-2.n; fl = c.in_ok-fl.fl; fh = c.in_ok-fh.fh })
    (rw (← s) c.in_ok-s.ensures.0) (rw (← n) c.in_ok-n.ensures.0) c.in_ok-fl.ensures.0 c.in_ok-fh.ensures.0
    (rw (← s) c.in_ok-s.ensures.1) (rw (← n) c.in_ok-n.ensures.1) c.in_ok-fl.ensures.1 c.in_ok-fh.ensures.1 c.is_entry.result c.is_entry.ensures)
