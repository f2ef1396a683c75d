use Rattle.std.proofs.Common.{◌+◌, List, ◌++◌, vec_items, sym, ap, ◌∙◌, append-nil, rules, arith}
use Rattle.std.proofs.lemmas.Result.{err_from_is_err_and}
use Rattle.script.specs.declared.parse.Line.{Line}
use Rattle.script.specs.Scripts.{numbered}
use Rattle.script.proofs.Running.{next_line, one_more, failed, finished}
use Rattle.script.proofs.parse.parse.Goals as goal

pub returns-in_err-written : goal.returns-in_err-written
returns-in_err-written c =
    let x = next_line c.loop-i.i-iterator c.next.new.self c.in-Some.i c.in-Some.line c.in-Some.ensures.steps in
    let p = err_from_is_err_and c.from_residual.result c.from_residual.ensures.1 in
    rw (p.1, p.2) (failed c.args.text.now _ c.in-Some.line.now _ _ c.in-Some.i _ c.loop-i.head (vec_items c.loop-i.lines) c.in_err-written.field-0.0 c.loop-i.invariant.sofar x c.in_err-written.ensures)

pub loop-i-preserved-in-Continue-branch-3 : goal.loop-i-preserved-in-Continue-branch-3
loop-i-preserved-in-Continue-branch-3 c =
    let calls : List Line = vec_items c.loop-i.lines in
    let x = next_line c.loop-i.i-iterator c.next.new.self c.in-Some.i c.in-Some.line c.in-Some.ensures.steps in
    let put = c.in_ok-push.ensures.items ∙ ap (λ o. calls ++ numbered (c.in-Some.i + 1) o) (sym c.in-Some-2.is) in
    record {
      sofar = one_more c.args.text.now _ c.in-Some.line.now _ _ c.in-Some.i _ c.loop-i.head c.read_line.new.self calls _ c.in_ok-written.field-0 c.loop-i.invariant.sofar x c.in_ok-written.ensures put;
      ended = omega (arith, x.index, x.count);
      can_next = search rules;
      is_finite = search rules;
    }

pub loop-i-preserved : goal.loop-i-preserved
loop-i-preserved c =
    let calls : List Line = vec_items c.loop-i.lines in
    let x = next_line c.loop-i.i-iterator c.next.new.self c.in-Some.i c.in-Some.line c.in-Some.ensures.steps in
    let put = sym (append-nil calls) ∙ ap (λ o. calls ++ numbered (c.in-Some.i + 1) o) (sym c.in_default.is) in
    record {
      sofar = one_more c.args.text.now _ c.in-Some.line.now _ _ c.in-Some.i _ c.loop-i.head c.read_line.new.self calls calls c.in_ok-written.field-0 c.loop-i.invariant.sofar x c.in_ok-written.ensures put;
      ended = omega (arith, x.index, x.count);
      can_next = search rules;
      is_finite = search rules;
    }

pub returns : goal.returns
returns c =
    finished c.args.text.now _ _ c.loop-i.head (vec_items c.loop-i.lines) c.finish.result c.loop-i.invariant.sofar c.in-None.ensures.steps.0.0.0 (rw c.loop-i.invariant.ended at c.finish.ensures)
