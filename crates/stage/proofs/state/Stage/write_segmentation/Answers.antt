use Rattle.std.specs.Option.{unwrap_or}
use mir.Val.{bool_byte}
use Rattle.std.proofs.Common.{not, is_none, ◌≡◌, ℕ, ◌-◌, ◌*◌, ◌≤◌, min, List, length, take, drop, sym, refl, ap, ◌∙◌, arith, rules}
use borrow.Rule.Slice.PartMut.{mid_of, put_mid}
use Rattle.std.proofs.lemmas.Result.{err_from_is_err_and}
use Rattle.av1.specs.declared.tile.Cell.{Cell}
use Rattle.av1.specs.declared.tile.Tile.{Tile}
use Rattle.av1.specs.Segments.{natural, near_segments, segment_context, segment_prediction}
use Rattle.model.specs.Decisions.{block_cells, prediction, segment_number, segment_decided}
use Rattle.stage.specs.declared.state.cells.Change.TheVariants as change
use Rattle.stage.specs.Questions.{area, need, record_asked}
use Rattle.stage.specs.View.{lanes, state_of, world}
use Rattle.stage.proofs.Cells.{part_taken, part_dropped, still_quiet}
use Rattle.stage.proofs.Calls.{asked_block}
use Rattle.stage.proofs.Symbols.{still_few}
use Rattle.stage.proofs.Segments.{carries, recounted, prediction_here, number_here, refused_block, refused_number, refused_record, accepted, map_segment}
use Rattle.stage.proofs.state.Stage.write_segmentation.Goals as goal

pub returns-in_err-block : goal.returns-in_err-block
returns-in_err-block g c =
    let k = g.S.Sink in
    let s = c.args.self.now in
    let p = err_from_is_err_and c.from_residual.result c.from_residual.ensures.1 in
    rw (p.1, p.2) (record {
      step =
          refused_block (length c.args.map.now) (k.rooms c.args.sink.now) (state_of s c.args.map.now) s.journal (lanes c.args.log.now) (k.list c.args.sink.now)
          c.args.bo.x c.args.bo.y c.args.bsize (is_none c.args.segment) (unwrap_or c.args.segment 0) _ c.in_err-block.ensures.answer;
      cells = tt;
      behind = refl;
      rooms = refl;
      still = λ h. (refl, refl, refl);
      memory = search rules;
    })

pub returns-in_err-ask_active : goal.returns-in_err-ask_active
returns-in_err-ask_active g c =
    let k = g.S.Sink in
    let s = c.args.self.now in
    let p = err_from_is_err_and c.from_residual-in_err-ask_active.result c.from_residual-in_err-ask_active.ensures.1 in
    let above = c.in_err-ask_active.ensures.inactive in
    rw (p.1, p.2, above.0) (record {
      step =
          refused_number (length c.args.map.now) (k.rooms c.args.sink.now) (state_of s c.args.map.now) s.journal (lanes c.args.log.now) (k.list c.args.sink.now)
          c.args.bo.x c.args.bo.y c.args.bsize (is_none c.args.segment) (unwrap_or c.args.segment 0) c.in_ok-block.block c.in_ok-block.ensures.answer above.1 above.2;
      cells = tt;
      behind = refl;
      rooms = refl;
      still = λ h. (refl, refl, refl);
      memory = search rules;
    })

pub returns-in_err-ask_record : goal.returns-in_err-ask_record
returns-in_err-ask_record g c =
    let k = g.S.Sink in
    let s = c.args.self.now in
    let active = c.in_ok-ask_active.ensures.active in
    let count : c.from-entries.result ≡ bool_byte (not (is_none c.args.segment)) = c.from-entries.ensures ∙ ap bool_byte c.is_some.ensures ∙ carries c.args.segment in
    let p = err_from_is_err_and c.from_residual-in_err-ask_record.result c.from_residual-in_err-ask_record.ensures.1 in
    rw (p.1, p.2) (record {
      step =
          refused_record (length c.args.map.now) (k.rooms c.args.sink.now) (state_of s c.args.map.now) s.journal (lanes c.args.log.now) (k.list c.args.sink.now)
          c.args.bo.x c.args.bo.y c.args.bsize (is_none c.args.segment) (unwrap_or c.args.segment 0) c.in_ok-block.block c.room.result _
          c.in_ok-block.ensures.answer active c.room.ensures (c.in_err-ask_record.ensures.answer ∙ ap (λ n. record_asked s.journal (lanes c.args.log.now) c.room.result n (need 0 n (area c.in_ok-block.block))) count);
      cells = tt;
      behind = refl;
      rooms = refl;
      still = λ h. (refl, refl, refl);
      memory = search rules;
    })

pub invariant_of-self : goal.invariant_of-self
invariant_of-self g c =
    let s = c.code_segment-set.new.self in
    let b = c.in_ok-block.block in
    let kept = c.set_block.ensures.kept in
    record {
      ends = s.ends;
      few = still_few c.set_block.new.self s.journal kept s.few;
      over = s.over;
      beside = s.beside;
      quiet =
          still_quiet (change.Segment c.code_segment-set.result) (block_cells c.cols.result b.width b.from b.height) s.journal c.set_block.new.self
          (mid_of 0 (c.units.result - 0) c.args.map.now) c.set_block.new.cells c.code_segment-set.new.log.spots.now _ kept c.set_block.ensures.cells s.quiet;
    }

pub returns : goal.returns
returns g c =
    let k = g.S.Sink in
    let s = c.args.self.now in
    let s' = c.code_segment-set.new.self in
    let coded = c.code_segment-set.ensures in
    let map : List Cell = c.args.map.now in
    let x : ℕ = c.args.bo.x in
    let y : ℕ = c.args.bo.y in
    let n : ℕ = c.units.result in
    let kept = c.set_block.ensures.kept in
    let active = c.in_ok-ask_active.ensures.active in
    let count : c.from-entries.result ≡ bool_byte (not (is_none c.args.segment)) = c.from-entries.ensures ∙ ap bool_byte c.is_some.ensures ∙ carries c.args.segment in
    let part : n - 0 ≡ n = omega arith in
    let units : n ≡ s.tile.cols * s.tile.rows = c.units.ensures.value in
    let units' : n ≡ s'.tile.cols * s'.tile.rows = units ∙ sym (ap (λ (t : Tile). t.cols * t.rows) coded.tile) in
    let fits : n ≤ length map = omega (arith, c.in_ok-block.ensures.mapped, units) in
    let long = c.set_block.auto.cells in
    let own : mid_of 0 (n - 0) map ≡ take (s'.tile.cols * s'.tile.rows) map = ap (λ (i : ℕ). take i map) (part ∙ units') in
    let here = state_of s map in
    let near : c.get_segment_pred-prediction.result.0 ≡ prediction here x y =
    c.get_segment_pred-prediction.ensures.prediction
    ∙ ap (λ (i : ℕ). min (natural (near_segments s.tile.cols s.tile.rows (take i map) segment_prediction x y)) s.last) (part ∙ units) ∙ prediction_here here x y in
    let number : c.get_segment_pred-prediction.result.1 ≡ segment_number here x y =
    c.get_segment_pred-prediction.ensures.number
    ∙ ap (λ (i : ℕ). near_segments s.tile.cols s.tile.rows (take i map) segment_context x y) (part ∙ units) ∙ number_here here x y in
    let after : List Cell = put_mid 0 (n - 0) map c.set_block.new.cells in
    let step =
    accepted (length map) (k.rooms c.args.sink.now) here s.journal (lanes c.args.log.now) (k.list c.args.sink.now)
    x y c.args.bsize (is_none c.args.segment) (unwrap_or c.args.segment 0)
    (state_of s' map) s'.journal c.set_block.new.self (lanes c.code_segment-set.new.log) _ (k.list c.code_segment-set.new.sink)
    (mid_of 0 (n - 0) map) c.set_block.new.cells _ c.get_segment_pred-prediction.result.1 c.get_segment_pred-prediction.result.0 c.code_segment-set.result
    c.cols.result c.room.result c.in_ok-block.block c.in_ok-ask_record.field-0
    (ap (λ (t : Tile). t.cols) coded.tile) (ap (λ (t : Tile). t.rows) coded.tile) number near coded.segment
    (coded.step map) c.in_ok-block.ensures.answer active c.room.ensures (c.in_ok-ask_record.ensures.answer ∙ ap (λ n. record_asked s.journal (lanes c.args.log.now) c.room.result n (need 0 n (area c.in_ok-block.block))) count)
    (c.cols.ensures ∙ sym (ap (λ (t : Tile). t.cols) coded.tile)) own
    (ap (λ (i : ℕ). take i (put_mid 0 (n - 0) map c.set_block.new.cells)) (sym units') ∙ part_taken map c.set_block.new.cells n (n - 0) part fits long)
    c.set_block.ensures.cells refl refl kept in
    record {
      step = recounted c.from-entries.result (bool_byte (not (is_none c.args.segment))) c.code_segment-set.result _ count ∙ step;
      cells =
          map_segment (length map) (k.rooms c.args.sink.now) (world s map (lanes c.args.log.now) (k.list c.args.sink.now)) _ s.tile map after
          x y c.args.bsize (is_none c.args.segment) (unwrap_or c.args.segment 0) _ c.code_segment-set.result step
          (coded.segment ∙ ap (λ (i : ℕ). segment_decided (is_none c.args.segment) i (unwrap_or c.args.segment 0)) near) refl refl refl
          (ap (λ (t : Tile). take (t.cols * t.rows) after) coded.tile) c.in_ok-block.ensures.mapped
          (asked_block s.tile.cols s.tile.rows (length map) 64 x y c.args.bsize c.in_ok-block.block c.in_ok-block.ensures.answer).0;
      behind =
          ap (λ (i : ℕ). drop i (put_mid 0 (n - 0) map c.set_block.new.cells)) (sym units) ∙ part_dropped map c.set_block.new.cells n (n - 0) part fits long ∙ ap (λ (i : ℕ). drop i map) units;
      rooms = coded.rooms;
      still = search rules;
      memory = search rules;
    }
