use Rattle.std.proofs.Common.{◌≡◌, ◌+◌, true, false, length, get_or, None, refl, ap, ◌∙◌, ap₂, rules}
use Rattle.std.proofs.lemmas.Result.{err_from_is_err_and}
use Rattle.av1.specs.Alphas.{alphas_allowed, joint_sign, coded_alpha}
use Rattle.av1.specs.declared.refusal.Refusal.TheVariants as no
use Rattle.av1.specs.Vectors.{nonzero}
use Rattle.model.proofs.TreeTables.{signs_in_layout}
use Rattle.stage.specs.View.{lanes, state_of, world}
use Rattle.stage.proofs.Alphas.{refused_alphas, refused_record, accepted}
use Rattle.stage.proofs.state.Stage.write_cfl_alphas.Goals as goal

pub returns-in_err-cfl-clause-step : goal.returns-in_err-cfl-clause-step
returns-in_err-cfl-clause-step g c =
    let k = g.S.Sink in
    let s = c.args.self.now in
    let refused : alphas_allowed (c.args.u, c.args.v) ≡ false = search rules in
    let p = err_from_is_err_and c.from_residual.result c.from_residual.ensures.1 in
    let why : c.in_err-cfl.field-0.0 ≡ no.Alphas = search rules in
    rw (p.1, p.2, why) (λ memory.
    refused_alphas (length memory) (k.rooms c.args.sink.now) (state_of s memory) s.journal (lanes c.args.log.now) (k.list c.args.sink.now) c.args.u c.args.v refused)

pub returns-in_err-ask_record : goal.returns-in_err-ask_record
returns-in_err-ask_record g c =
    let k = g.S.Sink in
    let s = c.args.self.now in
    let u : c.in_ok-cfl.cfl.u ≡ c.args.u = search rules in
    let v : c.in_ok-cfl.cfl.v ≡ c.args.v = search rules in
    let allowed : alphas_allowed (c.args.u, c.args.v) ≡ true = search rules in
    let entries : c.count_scales-entries.result ≡ nonzero c.args.u + nonzero c.args.v = c.count_scales-entries.ensures.value ∙ ap₂ (λ a b. nonzero a + nonzero b) u v in
    let p = err_from_is_err_and c.from_residual-in_err-ask_record.result c.from_residual-in_err-ask_record.ensures.1 in
    rw (p.1, p.2) (record {
      step = λ memory.
          refused_record (length memory) (k.rooms c.args.sink.now) (state_of s memory) s.journal (lanes c.args.log.now) (k.list c.args.sink.now) c.args.u c.args.v
          c.room.result (1 + c.count_scales-entries.result) _ allowed c.room.ensures (ap (λ n. 1 + n) entries) c.in_err-ask_record.ensures.answer;
      rooms = refl;
      still = λ h. (refl, refl);
      memory = search rules;
    })

pub invariant_of-symbol : goal.invariant_of-symbol
invariant_of-symbol g c = record { there = signs_in_layout }

pub returns : goal.returns
returns g c =
    let k = g.S.Sink in
    let s = c.args.self.now in
    let u : c.in_ok-cfl.cfl.u ≡ c.args.u = search rules in
    let v : c.in_ok-cfl.cfl.v ≡ c.args.v = search rules in
    let allowed : alphas_allowed (c.args.u, c.args.v) ≡ true = search rules in
    record {
      step = λ memory.
          accepted (length memory) (k.rooms c.args.sink.now) (state_of s memory) s.journal (lanes c.args.log.now) (k.list c.args.sink.now) c.args.u c.args.v
          c.room.result (1 + c.count_scales-entries.result) c.joint_sign.result (get_or c.scales.result 0 None) (get_or c.scales.result 1 None)
          (world c.symbol.new.self memory (lanes c.symbol.new.log) (k.list c.symbol.new.sink))
          (world c.code_scale.new.self memory (lanes c.code_scale.new.log) (k.list c.code_scale.new.sink))
          (world c.code_scale-2.new.self memory (lanes c.code_scale-2.new.log) (k.list c.code_scale-2.new.sink))
          c.in_ok-ask_record.field-0 allowed c.room.ensures
          (ap (λ n. 1 + n) (c.count_scales-entries.ensures.value ∙ ap₂ (λ a b. nonzero a + nonzero b) u v)) c.in_ok-ask_record.ensures.answer
          (c.joint_sign.ensures.value ∙ ap₂ (λ a b. joint_sign (a, b)) u v) (ap (λ xs. get_or xs 0 None) c.scales.ensures.value ∙ ap₂ coded_alpha u v)
          (ap (λ xs. get_or xs 1 None) c.scales.ensures.value ∙ ap₂ coded_alpha v u) (c.symbol.ensures.step memory) (c.code_scale.ensures.step memory) (c.code_scale-2.ensures.step memory);
      rooms = c.code_scale-2.ensures.rooms ∙ c.code_scale.ensures.rooms ∙ c.symbol.ensures.rooms;
      still = search rules;
      memory = search rules;
    }
