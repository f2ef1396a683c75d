use Rattle.std.proofs.Common.{◌≡◌, ℕ, ◌-◌, ◌*◌, ◌≤◌, false, List, length, take, drop, sym, refl, ap, ◌∙◌, arith, rules}
use borrow.Rule.Slice.PartMut.{mid_of, put_mid}
use Rattle.std.proofs.lemmas.Bool.{both_ways}
use Rattle.std.proofs.lemmas.Result.{err_from_is_err_and}
use Rattle.av1.specs.declared.tile.Cell.{Cell}
use Rattle.av1.specs.declared.tile.Tile.{Tile}
use Rattle.av1.specs.Tiles.{skip_context}
use Rattle.model.proofs.TreeTables.{skip_in_layout}
use Rattle.model.specs.Decisions.{block_cells}
use Rattle.stage.specs.declared.state.cells.Change.TheVariants as change
use Rattle.stage.specs.View.{lanes, state_of, world}
use Rattle.stage.proofs.Cells.{part_taken, part_dropped, still_quiet}
use Rattle.stage.proofs.Calls.{asked_block}
use Rattle.stage.proofs.Symbols.{still_few}
use Rattle.stage.proofs.Skips.{refused_block, refused_record, accepted, flag_set}
use Rattle.stage.proofs.state.Stage.write_skip.Goals as goal

pub returns-in_err-block : goal.returns-in_err-block
returns-in_err-block g c =
    let k = g.S.Sink in
    let s = c.args.self.now in
    let p = err_from_is_err_and c.from_residual.result c.from_residual.ensures.1 in
    rw (p.1, p.2) (record {
      step =
          refused_block (length c.args.map.now) (k.rooms c.args.sink.now) (state_of s c.args.map.now) s.journal (lanes c.args.log.now) (k.list c.args.sink.now)
          c.args.bo.x c.args.bo.y c.args.bsize c.args.skip _ c.in_err-block.ensures.answer;
      cells = λ h. absurd (both_ways false refl h);
      behind = refl;
      rooms = refl;
      still = λ h. (refl, refl, refl);
      memory = search rules;
    })

pub returns-in_err-ask_record : goal.returns-in_err-ask_record
returns-in_err-ask_record g c =
    let k = g.S.Sink in
    let s = c.args.self.now in
    let p = err_from_is_err_and c.from_residual-in_err-ask_record.result c.from_residual-in_err-ask_record.ensures.1 in
    rw (p.1, p.2) (record {
      step =
          refused_record (length c.args.map.now) (k.rooms c.args.sink.now) (state_of s c.args.map.now) s.journal (lanes c.args.log.now) (k.list c.args.sink.now)
          c.args.bo.x c.args.bo.y c.args.bsize c.args.skip c.in_ok-block.block c.room.result _
          c.in_ok-block.ensures.answer c.room.ensures c.in_err-ask_record.ensures.answer;
      cells = λ h. absurd (both_ways false refl h);
      behind = refl;
      rooms = refl;
      still = λ h. (refl, refl, refl);
      memory = search rules;
    })

pub invariant_of-symbol : goal.invariant_of-symbol
invariant_of-symbol g c = record { there = skip_in_layout c.skip_context-ctx.result (omega (arith, c.skip_context-ctx.ensures.most)) }

pub invariant_of-self : goal.invariant_of-self
invariant_of-self g c =
    let s = c.symbol.new.self in
    let b = c.in_ok-block.block in
    let kept = c.set_block.ensures.kept in
    record {
      ends = s.ends;
      few = still_few c.set_block.new.self s.journal kept s.few;
      over = s.over;
      beside = s.beside;
      quiet =
          still_quiet (change.Skip c.args.skip) (block_cells c.cols.result b.width b.from b.height) s.journal c.set_block.new.self
          (mid_of 0 (c.units.result - 0) c.args.map.now) c.set_block.new.cells c.symbol.new.log.spots.now _ kept c.set_block.ensures.cells s.quiet;
    }

pub returns : goal.returns
returns g c =
    let k = g.S.Sink in
    let s = c.args.self.now in
    let s' = c.symbol.new.self in
    let map : List Cell = c.args.map.now in
    let n : ℕ = c.units.result in
    let kept = c.set_block.ensures.kept in
    let part : n - 0 ≡ n = omega arith in
    let units : n ≡ s.tile.cols * s.tile.rows = c.units.ensures.value in
    let units' : n ≡ s'.tile.cols * s'.tile.rows = units ∙ sym (ap (λ (t : Tile). t.cols * t.rows) c.symbol.ensures.tile) in
    let fits : n ≤ length map = omega (arith, c.in_ok-block.ensures.mapped, units) in
    let long = c.set_block.auto.cells in
    let own : mid_of 0 (n - 0) map ≡ take (s'.tile.cols * s'.tile.rows) map = ap (λ (i : ℕ). take i map) (part ∙ units') in
    let context : c.skip_context-ctx.result ≡ skip_context s.tile.cols s.tile.rows (take (s.tile.cols * s.tile.rows) map) c.args.bo.x c.args.bo.y =
    c.skip_context-ctx.ensures.value ∙ ap (λ (i : ℕ). skip_context s.tile.cols s.tile.rows (take i map) c.args.bo.x c.args.bo.y) (part ∙ units) in
    let after : List Cell = put_mid 0 (n - 0) map c.set_block.new.cells in
    let from = state_of s map in
    let step =
    accepted (length map) (k.rooms c.args.sink.now) from s.journal (lanes c.args.log.now) (k.list c.args.sink.now)
    c.args.bo.x c.args.bo.y c.args.bsize c.args.skip
    (state_of s' map) s'.journal c.set_block.new.self (lanes c.symbol.new.log) _ (k.list c.symbol.new.sink)
    (mid_of 0 (n - 0) map) c.set_block.new.cells _ c.skip_context-ctx.result c.cols.result c.room.result c.in_ok-block.block c.in_ok-ask_record.field-0
    (ap (λ (t : Tile). t.cols) c.symbol.ensures.tile) (ap (λ (t : Tile). t.rows) c.symbol.ensures.tile) context
    (c.symbol.ensures.step map) c.in_ok-block.ensures.answer c.room.ensures c.in_ok-ask_record.ensures.answer
    (c.cols.ensures ∙ sym (ap (λ (t : Tile). t.cols) c.symbol.ensures.tile)) own
    (ap (λ (i : ℕ). take i (put_mid 0 (n - 0) map c.set_block.new.cells)) (sym units') ∙ part_taken map c.set_block.new.cells n (n - 0) part fits long)
    c.set_block.ensures.cells refl refl kept in
    record {
      step = step;
      cells = λ ok.
          flag_set (length map) (k.rooms c.args.sink.now) (world s map (lanes c.args.log.now) (k.list c.args.sink.now)) _ s.tile map after
          c.args.bo.x c.args.bo.y c.args.bsize c.args.skip step refl refl refl
          (ap (λ (t : Tile). take (t.cols * t.rows) after) c.symbol.ensures.tile) c.in_ok-block.ensures.mapped
          (asked_block s.tile.cols s.tile.rows (length map) 64 c.args.bo.x c.args.bo.y c.args.bsize c.in_ok-block.block c.in_ok-block.ensures.answer).0;
      behind =
          ap (λ (i : ℕ). drop i (put_mid 0 (n - 0) map c.set_block.new.cells)) (sym units) ∙ part_dropped map c.set_block.new.cells n (n - 0) part fits long ∙ ap (λ (i : ℕ). drop i map) units;
      rooms = c.symbol.ensures.rooms;
      still = search rules;
      memory = search rules;
    }
