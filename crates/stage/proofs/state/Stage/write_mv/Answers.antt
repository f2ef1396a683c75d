use Rattle.std.proofs.Common.{◌≡◌, ℕ, ◌+◌, ◌*◌, ◌%◌, ◌≤◌, not, eqb, [], ◌∷◌, length, ℤ, sym, refl, ◌∙◌, subst, ap₂, arith, to_z-of_z, w32, to_z, of_z, rules}
use mir.Val.{bool_byte}
use Rattle.std.proofs.lemmas.Result.{err_from_is_err_and}
use Rattle.av1.specs.declared.refusal.Refusal.TheVariants as no
use Rattle.av1.specs.Vectors.{magnitude, nonzero}
use Rattle.model.specs.Tree.{one}
use Rattle.model.specs.Vector.{component_if, path_if, present, step_of}
use Rattle.model.proofs.TreeTables.{joints_in_layout}
use Rattle.stage.specs.Coding.{Coded, Moment, moment, RoomFor}
use Rattle.stage.specs.Vectors.{component_count}
use Rattle.stage.specs.View.{lanes, state_of}
use Rattle.stage.proofs.Coding.{coded_small, room_left}
use Rattle.stage.proofs.Vectors.{SplitAs, split_as}
use Rattle.stage.proofs.VectorCalls.{Taken, taken, vector_small, vector_large, room_asked, vector_coded, refused_range, refused_precision, refused_record, accepted}
use Rattle.stage.proofs.state.Stage.write_mv.Goals as goal

pub returns-in_err-high-clause-step : goal.returns-in_err-high-clause-step
returns-in_err-high-clause-step g c =
    let k = g.S.Sink in
    let s = c.args.self.now in
    let beyond : magnitude c.args.row ≤ 16384 → ⊥ = search rules in
    let p = err_from_is_err_and c.from_residual.result c.from_residual.ensures.1 in
    let why : c.in_err-high.field-0.0 ≡ no.VectorRange = search rules in
    rw (p.1, p.2, why) (λ memory.
    refused_range (length memory) (k.rooms c.args.sink.now) (state_of s memory) s.journal (lanes c.args.log.now) (k.list c.args.sink.now)
    c.args.precision c.args.row c.args.col (λ a b. beyond a))

pub returns-in_err-wide-clause-step : goal.returns-in_err-wide-clause-step
returns-in_err-wide-clause-step g c =
    let k = g.S.Sink in
    let s = c.args.self.now in
    let beyond : magnitude c.args.col ≤ 16384 → ⊥ = search rules in
    let p = err_from_is_err_and c.from_residual-in_err-wide.result c.from_residual-in_err-wide.ensures.1 in
    let why : c.in_err-wide.field-0.0 ≡ no.VectorRange = search rules in
    rw (p.1, p.2, why) (λ memory.
    refused_range (length memory) (k.rooms c.args.sink.now) (state_of s memory) s.journal (lanes c.args.log.now) (k.list c.args.sink.now)
    c.args.precision c.args.row c.args.col (λ a b. beyond b))

pub returns-then-high-step-ne0 : goal.returns-then-high-step-ne0
returns-then-high-step-ne0 g c =
    let k = g.S.Sink in
    let s = c.args.self.now in
    let p = c.args.precision in
    let row : ℤ = c.args.row in
    let col : ℤ = c.args.col in
    let high : ℕ = c.in_ok-high.high in
    let wide : ℕ = c.in_ok-wide.wide in
    let first : SplitAs row c.in_ok-high.field-0-0 high = search rules in
    let next : SplitAs col c.in_ok-wide.field-0-0 wide = search rules in
    let x = split_as row c.in_ok-high.field-0-0 high first in
    let y = split_as col c.in_ok-wide.field-0-0 wide next in
    let coarse : high % c.mv_step-step.result ≡ 0 → wide % c.mv_step-step.result ≡ 0 → ⊥ = search rules in
    let size : c.mv_step-step.result ≡ step_of p = c.mv_step-step.ensures.value in
    record {
      step = λ memory.
          refused_precision (length memory) (k.rooms c.args.sink.now) (state_of s memory) s.journal (lanes c.args.log.now) (k.list c.args.sink.now)
          p row col x.0 y.0 (λ a b. coarse (ap₂ (λ m n. m % n) x.2 size ∙ a) (ap₂ (λ m n. m % n) y.2 size ∙ b));
      rooms = refl;
      still = λ h. (refl, refl);
      memory = search rules;
    }

pub returns-in_err-ask_record : goal.returns-in_err-ask_record
returns-in_err-ask_record g c =
    let k = g.S.Sink in
    let s = c.args.self.now in
    let p = c.args.precision in
    let row : ℤ = c.args.row in
    let col : ℤ = c.args.col in
    let high : ℕ = c.in_ok-high.high in
    let wide : ℕ = c.in_ok-wide.wide in
    let first : SplitAs row c.in_ok-high.field-0-0 high = search rules in
    let next : SplitAs col c.in_ok-wide.field-0-0 wide = search rules in
    let fine : high % c.mv_step-step.result ≡ 0 = search rules in
    let fine' : wide % c.mv_step-step.result ≡ 0 = search rules in
    let is : Taken p row col high wide c.component_symbols.result c.component_symbols-2.result =
    taken p row col c.in_ok-high.field-0-0 high c.in_ok-wide.field-0-0 wide c.mv_step-step.result c.component_symbols.result c.component_symbols-2.result
    first next c.mv_step-step.ensures.value fine fine' c.component_symbols.ensures.value c.component_symbols-2.ensures.value in
    let small : ℕ = 1 + (c.component_symbols.result + c.component_symbols-2.result) in
    let large : ℕ = bool_byte (not (eqb high 0)) + bool_byte (not (eqb wide 0)) in
    let few : small ≡ vector_small p row col = omega (arith, is.row_count, is.col_count) in
    let many : large ≡ vector_large row col = omega (arith, is.rows, is.cols) in
    let e = err_from_is_err_and c.from_residual-in_err-ask_record.result c.from_residual-in_err-ask_record.ensures.1 in
    rw (e.1, e.2) (record {
      step = λ memory.
          refused_record (length memory) (k.rooms c.args.sink.now) (state_of s memory) s.journal (lanes c.args.log.now) (k.list c.args.sink.now)
          p row col c.room.result small large _ is.row_fits is.col_fits c.room.ensures few many c.in_err-ask_record.ensures.answer;
      rooms = refl;
      still = λ h. (refl, refl);
      memory = search rules;
    })

pub invariant_of-symbol : goal.invariant_of-symbol
invariant_of-symbol g c = record { there = joints_in_layout }

pub encode_mv_component-requires : goal.encode_mv_component-requires
encode_mv_component-requires g c =
    let k = g.S.Sink in
    let s = c.args.self.now in
    let p = c.args.precision in
    let row : ℤ = c.args.row in
    let col : ℤ = c.args.col in
    let high : ℕ = c.in_ok-high.high in
    let wide : ℕ = c.in_ok-wide.wide in
    let first : SplitAs row c.in_ok-high.field-0-0 high = search rules in
    let next : SplitAs col c.in_ok-wide.field-0-0 wide = search rules in
    let fine : high % c.mv_step-step.result ≡ 0 = search rules in
    let fine' : wide % c.mv_step-step.result ≡ 0 = search rules in
    let is : Taken p row col high wide c.component_symbols.result c.component_symbols-2.result =
    taken p row col c.in_ok-high.field-0-0 high c.in_ok-wide.field-0-0 wide c.mv_step-step.result c.component_symbols.result c.component_symbols-2.result
    first next c.mv_step-step.ensures.value fine fine' c.component_symbols.ensures.value c.component_symbols-2.ensures.value in
    let m : Moment = moment c.args.self.now c.args.log.now (k.rooms c.args.sink.now) (k.list c.args.sink.now) in
    let room : RoomFor (vector_small p row col) (vector_large row col) m =
    room_asked p row col high wide c.component_symbols.result c.component_symbols-2.result c.room.result m is c.room.ensures
    c.in_ok-ask_record.ensures.room c.in_ok-ask_record.ensures.lanes in
    let j : ℕ = 2 * bool_byte (not (eqb high 0)) + bool_byte (not (eqb wide 0)) in
    let n : Moment = moment c.symbol.new.self c.symbol.new.log (k.rooms c.symbol.new.sink) (k.list c.symbol.new.sink) in
    let e = c.symbol.ensures in
    let coded : Coded (one 302 4) (j ∷ []) 1 0 m n = coded_small 302 4 j m n (omega arith) e.step e.rooms e.left e.few e.memory e.trials in
    let there : to_z w32 (of_z w32 row) ≡ row = to_z-of_z c.ranges.row in
    record {
      range = subst (λ d. magnitude d ≤ 16384) (sym there) is.row_fits.range;
      fine = subst (λ d. magnitude d % step_of p ≡ 0) (sym there) is.row_fits.fine;
      room =
          subst (λ d. RoomFor (component_count p (magnitude d)) (nonzero d) n) (sym there)
          (room_left (one 302 4) (j ∷ []) 1 0 (component_count p (magnitude row)) (nonzero row) (vector_small p row col) (vector_large row col) m n coded (omega arith) (omega arith) room);
    }

pub encode_mv_component-requires-2 : goal.encode_mv_component-requires-2
encode_mv_component-requires-2 g c =
    let k = g.S.Sink in
    let s = c.args.self.now in
    let p = c.args.precision in
    let row : ℤ = c.args.row in
    let col : ℤ = c.args.col in
    let high : ℕ = c.in_ok-high.high in
    let wide : ℕ = c.in_ok-wide.wide in
    let first : SplitAs row c.in_ok-high.field-0-0 high = search rules in
    let next : SplitAs col c.in_ok-wide.field-0-0 wide = search rules in
    let fine : high % c.mv_step-step.result ≡ 0 = search rules in
    let fine' : wide % c.mv_step-step.result ≡ 0 = search rules in
    let is : Taken p row col high wide c.component_symbols.result c.component_symbols-2.result =
    taken p row col c.in_ok-high.field-0-0 high c.in_ok-wide.field-0-0 wide c.mv_step-step.result c.component_symbols.result c.component_symbols-2.result
    first next c.mv_step-step.ensures.value fine fine' c.component_symbols.ensures.value c.component_symbols-2.ensures.value in
    let m : Moment = moment c.args.self.now c.args.log.now (k.rooms c.args.sink.now) (k.list c.args.sink.now) in
    let room : RoomFor (vector_small p row col) (vector_large row col) m =
    room_asked p row col high wide c.component_symbols.result c.component_symbols-2.result c.room.result m is c.room.ensures
    c.in_ok-ask_record.ensures.room c.in_ok-ask_record.ensures.lanes in
    let j : ℕ = 2 * bool_byte (not (eqb high 0)) + bool_byte (not (eqb wide 0)) in
    let n : Moment = moment c.symbol.new.self c.symbol.new.log (k.rooms c.symbol.new.sink) (k.list c.symbol.new.sink) in
    let e = c.symbol.ensures in
    let coded : Coded (one 302 4) (j ∷ []) 1 0 m n = coded_small 302 4 j m n (omega arith) e.step e.rooms e.left e.few e.memory e.trials in
    let there : to_z w32 (of_z w32 row) ≡ row = to_z-of_z c.ranges.row in
    let l : Moment = moment c.encode_mv_component.new.self c.encode_mv_component.new.log (k.rooms c.encode_mv_component.new.sink) (k.list c.encode_mv_component.new.sink) in
    let across : Coded (component_if (present row) 318 p) (path_if p row) (component_count p (magnitude row)) (nonzero row) n l =
    subst (λ d. Coded (component_if (present d) 318 p) (path_if p d) (component_count p (magnitude d)) (nonzero d) n l) there c.encode_mv_component.ensures in
    let back : to_z w32 (of_z w32 col) ≡ col = to_z-of_z c.ranges.col in
    let rest : RoomFor (component_count p (magnitude row) + component_count p (magnitude col)) (vector_large row col) n =
    room_left (one 302 4) (j ∷ []) 1 0 (component_count p (magnitude row) + component_count p (magnitude col)) (vector_large row col) (vector_small p row col) (vector_large row col) m n coded (omega arith) (omega arith) room in
    record {
      range = subst (λ d. magnitude d ≤ 16384) (sym back) is.col_fits.range;
      fine = subst (λ d. magnitude d % step_of p ≡ 0) (sym back) is.col_fits.fine;
      room =
          subst (λ d. RoomFor (component_count p (magnitude d)) (nonzero d) l) (sym back)
          (room_left (component_if (present row) 318 p) (path_if p row) (component_count p (magnitude row)) (nonzero row) (component_count p (magnitude col)) (nonzero col)
          (component_count p (magnitude row) + component_count p (magnitude col)) (vector_large row col) n l across (omega arith) (omega arith) rest);
    }

pub returns : goal.returns
returns g c =
    let k = g.S.Sink in
    let s = c.args.self.now in
    let p = c.args.precision in
    let row : ℤ = c.args.row in
    let col : ℤ = c.args.col in
    let high : ℕ = c.in_ok-high.high in
    let wide : ℕ = c.in_ok-wide.wide in
    let first : SplitAs row c.in_ok-high.field-0-0 high = search rules in
    let next : SplitAs col c.in_ok-wide.field-0-0 wide = search rules in
    let fine : high % c.mv_step-step.result ≡ 0 = search rules in
    let fine' : wide % c.mv_step-step.result ≡ 0 = search rules in
    let is : Taken p row col high wide c.component_symbols.result c.component_symbols-2.result =
    taken p row col c.in_ok-high.field-0-0 high c.in_ok-wide.field-0-0 wide c.mv_step-step.result c.component_symbols.result c.component_symbols-2.result
    first next c.mv_step-step.ensures.value fine fine' c.component_symbols.ensures.value c.component_symbols-2.ensures.value in
    let small : ℕ = 1 + (c.component_symbols.result + c.component_symbols-2.result) in
    let large : ℕ = bool_byte (not (eqb high 0)) + bool_byte (not (eqb wide 0)) in
    let few : small ≡ vector_small p row col = omega (arith, is.row_count, is.col_count) in
    let many : large ≡ vector_large row col = omega (arith, is.rows, is.cols) in
    let m : Moment = moment c.args.self.now c.args.log.now (k.rooms c.args.sink.now) (k.list c.args.sink.now) in
    let j : ℕ = 2 * bool_byte (not (eqb high 0)) + bool_byte (not (eqb wide 0)) in
    let n : Moment = moment c.symbol.new.self c.symbol.new.log (k.rooms c.symbol.new.sink) (k.list c.symbol.new.sink) in
    let e = c.symbol.ensures in
    let coded : Coded (one 302 4) (j ∷ []) 1 0 m n = coded_small 302 4 j m n (omega arith) e.step e.rooms e.left e.few e.memory e.trials in
    let there : to_z w32 (of_z w32 row) ≡ row = to_z-of_z c.ranges.row in
    let l : Moment = moment c.encode_mv_component.new.self c.encode_mv_component.new.log (k.rooms c.encode_mv_component.new.sink) (k.list c.encode_mv_component.new.sink) in
    let across : Coded (component_if (present row) 318 p) (path_if p row) (component_count p (magnitude row)) (nonzero row) n l =
    subst (λ d. Coded (component_if (present d) 318 p) (path_if p d) (component_count p (magnitude d)) (nonzero d) n l) there c.encode_mv_component.ensures in
    let back : to_z w32 (of_z w32 col) ≡ col = to_z-of_z c.ranges.col in
    let o : Moment = moment c.encode_mv_component-2.new.self c.encode_mv_component-2.new.log (k.rooms c.encode_mv_component-2.new.sink) (k.list c.encode_mv_component-2.new.sink) in
    let down : Coded (component_if (present col) 374 p) (path_if p col) (component_count p (magnitude col)) (nonzero col) l o =
    subst (λ d. Coded (component_if (present d) 374 p) (path_if p d) (component_count p (magnitude d)) (nonzero d) l o) back c.encode_mv_component-2.ensures in
    let named : j ≡ 2 * nonzero row + nonzero col = omega (arith, is.rows, is.cols) in
    let all = vector_coded p row col m n l o is.row_fits is.col_fits (subst (λ i. Coded (one 302 4) (i ∷ []) 1 0 m n) named coded) across down in
    record {
      step = λ memory.
          accepted (length memory) (k.rooms c.args.sink.now) (state_of s memory) s.journal (lanes c.args.log.now) (k.list c.args.sink.now)
          p row col c.room.result small large c.in_ok-ask_record.field-0 _ is.row_fits is.col_fits c.room.ensures few many
          c.in_ok-ask_record.ensures.answer (all.step memory);
      rooms = all.rooms;
      still = search rules;
      memory = all.memory;
    }
