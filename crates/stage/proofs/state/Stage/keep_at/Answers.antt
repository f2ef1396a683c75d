use Rattle.std.proofs.Common.{◌≡◌, true, false, cond, eqb, length, sym, refl, ap, rules}
use Rattle.std.proofs.lemmas.Result.{err_from_is_err_and}
use Rattle.std.proofs.lemmas.Bool.{both_ways, eq-eqb}
use Rattle.stage.specs.View.{state_of}
use Rattle.stage.proofs.Trials.{keep_refused, keep_accepted}
use Rattle.stage.proofs.state.Stage.keep_at.Goals as goal

pub returns-in_err-ask_innermost : goal.returns-in_err-ask_innermost
returns-in_err-ask_innermost c =
    let s = c.args.self.now in
    let p = err_from_is_err_and c.from_residual.result c.from_residual.ensures.1 in
    rw (p.1, p.2) (record {
      step = λ memory rooms l entries. keep_refused (length memory) rooms (state_of s memory) s.journal l entries c.args.depth _ c.in_err-ask_innermost.ensures.answer;
      still = λ h. refl;
    })

pub returns-then-is_empty : goal.returns-then-is_empty
returns-then-is_empty c =
    let s = c.args.self.now in
    let kept = c.pop.new.self in
    let last : length kept.items ≡ 0 = search rules in
    let out : eqb (length kept.items) 0 ≡ true = eq-eqb (length kept.items) 0 last in
    record {
      step = λ memory rooms l entries. keep_accepted (length memory) rooms (state_of s memory) s.journal l entries c.args.depth tt
          (record { marks = kept; used = c.default-self.result }) c.in_ok-ask_innermost.ensures.open c.in_ok-ask_innermost.ensures.answer c.pop.ensures.rest
          (search rules) (search rules) (search rules);
      still = λ h. absurd (both_ways true h refl);
    }

pub returns-else-is_empty : goal.returns-else-is_empty
returns-else-is_empty c =
    let s = c.args.self.now in
    let kept = c.pop.new.self in
    let more : eqb (length kept.items) 0 ≡ false = search rules in
    record {
      step = λ memory rooms l entries. keep_accepted (length memory) rooms (state_of s memory) s.journal l entries c.args.depth tt
          (record { marks = kept; used = s.journal.used }) c.in_ok-ask_innermost.ensures.open c.in_ok-ask_innermost.ensures.answer c.pop.ensures.rest
          (sym (ap (λ b. cond b 0 s.journal.used.small) more)) (sym (ap (λ b. cond b 0 s.journal.used.large) more)) (sym (ap (λ b. cond b 0 s.journal.used.spots) more));
      still = λ h. absurd (both_ways true h refl);
    }
