use Rattle.std.proofs.Common.{◌≡◌, ℕ, ◌+◌, ◌/◌, true, false, length, refl, ap, ap₂, arith, rules}
use Rattle.std.proofs.lemmas.Bool.{both_ways}
use Rattle.std.proofs.lemmas.Result.{err_from_is_err_and}
use Rattle.av1.specs.Sizes.{width, height, fits_in}
use Rattle.stage.specs.View.{lanes, state_of}
use Rattle.stage.proofs.Contexts.{spans_inside, update_unfit, update_unplaced, update_unlogged, updated_world}
use Rattle.stage.proofs.state.Stage.update_partition_context.Goals as goal

pub returns-then-not-fits_in : goal.returns-then-not-fits_in
returns-then-not-fits_in c =
    let s = c.args.self.now in
    let no : fits_in c.args.subsize c.args.bsize ≡ false = search rules in
    record {
      step = λ memory rooms entries. update_unfit (length memory) rooms (state_of s memory) s.journal (lanes c.args.log.now) entries c.args.bo.x c.args.bo.y c.args.bsize c.args.subsize no;
      still = λ h. refl;
      memory = search rules;
    }

pub returns-in_err-ask_square : goal.returns-in_err-ask_square
returns-in_err-ask_square c =
    let s = c.args.self.now in
    let fit : fits_in c.args.subsize c.args.bsize ≡ true = search rules in
    let p = err_from_is_err_and c.from_residual.result c.from_residual.ensures.1 in
    rw (p.1, p.2) (record {
      step = λ memory rooms entries.
          update_unplaced (length memory) rooms (state_of s memory) s.journal (lanes c.args.log.now) entries c.args.bo.x c.args.bo.y c.args.bsize c.args.subsize _ fit c.in_err-ask_square.ensures.answer;
      still = λ h. refl;
      memory = search rules;
    })

pub returns-in_err-ask_record : goal.returns-in_err-ask_record
returns-in_err-ask_record c =
    let s = c.args.self.now in
    let z = c.args.bsize in
    let fit : fits_in c.args.subsize c.args.bsize ≡ true = search rules in
    let spread : c.width_mi-width.result / 2 + c.height_mi-height.result / 2 ≡ width z / 8 + height z / 8 = omega (arith, c.width_mi-width.ensures.value, c.height_mi-height.ensures.value) in
    let p = err_from_is_err_and c.from_residual-in_err-ask_record.result c.from_residual-in_err-ask_record.ensures.1 in
    rw (p.1, p.2) (record {
      step = λ memory rooms entries.
          update_unlogged (length memory) rooms (state_of s memory) s.journal (lanes c.args.log.now) entries c.args.bo.x c.args.bo.y z c.args.subsize tt fit c.in_ok-ask_square.ensures.answer _ spread _
          c.in_err-ask_record.ensures.answer;
      still = λ h. refl;
      memory = search rules;
    })

pub returns : goal.returns
returns c =
    let s = c.args.self.now in
    let z = c.args.bsize in
    let one = c.set_bytes.ensures in
    let two = c.set_bytes-2.ensures in
    let fit : fits_in c.args.subsize c.args.bsize ≡ true = search rules in
    let wide : c.width_mi-width.result / 2 ≡ width z / 8 = omega (arith, c.width_mi-width.ensures.value) in
    let high : c.height_mi-height.result / 2 ≡ height z / 8 = omega (arith, c.height_mi-height.ensures.value) in
    let placed = c.in_ok-ask_square.ensures.placed in
    let inside = spans_inside s.tile.cols s.tile.rows c.args.bo.x c.args.bo.y z (search rules) placed.square placed.inside in
    record {
      step = λ memory rooms entries.
          updated_world (length memory) rooms (state_of s memory) s.journal (lanes c.args.log.now) entries c.args.bo.x c.args.bo.y z c.args.subsize tt fit c.in_ok-ask_square.ensures.answer
          _ (ap₂ (λ (m n : ℕ). m + n) wide high) tt c.set_bytes.new.self c.set_bytes-2.new.self _ _ _ _ _ _ _ _ c.in_ok-ask_record.ensures.answer inside
          (ap (λ (b : ℕ × ℕ). b.0) c.context_bytes-above.ensures) (ap (λ (b : ℕ × ℕ). b.1) c.context_bytes-above.ensures) wide high one.bytes two.bytes refl refl refl refl one.kept two.kept;
      still = λ h. absurd (both_ways true h refl);
      memory = search rules;
    }
