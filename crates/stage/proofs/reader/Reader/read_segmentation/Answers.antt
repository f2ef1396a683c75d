use Rattle.std.proofs.Common.{◌≡◌, ℕ, ◌-◌, ◌*◌, min, List, length, take, drop, Ok, Err, sym, refl, ap, ◌∙◌, arith}
use Rattle.std.proofs.lemmas.Result.{err_from_is_err_and}
use Rattle.av1.specs.declared.tile.Cell.{Cell}
use Rattle.av1.specs.Segments.{natural, near_segments, segment_context, segment_prediction}
use Rattle.model.specs.Decisions.{State, prediction, segment_number, segment_tree}
use Rattle.model.specs.declared.Question.TheVariants as question
use Rattle.model.specs.Runs.{fault}
use Rattle.model.specs.Tree.{read}
use Rattle.stage.specs.declared.state.cells.Change.TheVariants as change
use Rattle.stage.specs.Faults.{fault_of}
use Rattle.stage.specs.View.{refused_by, state_of}
use Rattle.stage.proofs.ReadBlocks.{block_asked_first, block_read, faulty_read, from_start, read_state, refused_read}
use Rattle.stage.proofs.Segments.{number_here, prediction_here}
use Rattle.stage.proofs.reader.Reader.read_segmentation.Goals as goal

pub returns-in_err-block-clause-step : goal.returns-in_err-block-clause-step
returns-in_err-block-clause-step g c =
    let s : State = state_of c.args.self.now.stage c.args.map.now in
    let p = err_from_is_err_and c.from_residual.result c.from_residual.ensures.1 in
    rw (p.1, p.2) (refused_read (length c.args.map.now) (g.Q.Source.list c.args.source.now) (question.Segment c.args.bo.x c.args.bo.y c.args.bsize c.args.skip) s (g.Q.Source.place c.args.source.now) _
    (block_asked_first s.columns s.rows (length c.args.map.now) c.args.bo.x c.args.bo.y c.args.bsize ∙ sym (ap refused_by c.in_err-block.ensures.answer)))

-- the prediction and the number of the table, from the cells that were looked at
near_as : (s : State) (cells : List Cell) (x y near : ℕ) → cells ≡ s.cells → near ≡ min (natural (near_segments s.columns s.rows cells segment_prediction x y)) s.last → near ≡ prediction s x y
near_as s cells x y near same value = value ∙ ap (λ l. min (natural (near_segments s.columns s.rows l segment_prediction x y)) s.last) same ∙ prediction_here s x y

number_as : (s : State) (cells : List Cell) (x y number : ℕ) → cells ≡ s.cells → number ≡ near_segments s.columns s.rows cells segment_context x y → number ≡ segment_number s x y
number_as s cells x y number same value = value ∙ ap (λ l. near_segments s.columns s.rows l segment_context x y) same ∙ number_here s x y

pub returns-in_err-segment-clause-step : goal.returns-in_err-segment-clause-step
returns-in_err-segment-clause-step g c =
    let map = c.args.map.now in
    let s : State = state_of c.args.self.now.stage map in
    let l = g.Q.Source.list c.args.source.now in
    let at = g.Q.Source.place c.args.source.now in
    let x = c.args.bo.x in
    let y = c.args.bo.y in
    let part : c.units.result - 0 ≡ s.columns * s.rows = omega (arith, c.units.ensures.value) in
    let cells : take (c.units.result - 0) map ≡ s.cells = ap (λ (i : ℕ). take i map) part in
    let near = near_as s (take (c.units.result - 0) map) x y c.get_segment_pred-prediction.result.0 cells c.get_segment_pred-prediction.ensures.prediction in
    let number = number_as s (take (c.units.result - 0) map) x y c.get_segment_pred-prediction.result.1 cells c.get_segment_pred-prediction.ensures.number in
    let p = err_from_is_err_and c.from_residual-in_err-segment.result c.from_residual-in_err-segment.ensures.1 in
    let still = c.in_err-segment.ensures.still refl in
    rw (p.1, p.2) ((λ i. (Err (fault (fault_of c.in_err-segment.field-0.0)), state_of (still.0 i).stage map, still.1 i))
    ∙ faulty_read (length map) l (question.Segment x y c.args.bsize c.args.skip) s at (fault_of c.in_err-segment.field-0.0)
    (block_asked_first s.columns s.rows (length map) x y c.args.bsize ∙ sym (ap refused_by c.in_ok-block.ensures.answer))
    (from_start c.in_err-segment.ensures.reads refl ∙ (λ i. read s.words (segment_tree c.args.skip (number i) s.last (near i)) at 0 at (drop at l))))

pub returns-clause-step : goal.returns-clause-step
returns-clause-step g c =
    let map = c.args.map.now in
    let s : State = state_of c.args.self.now.stage map in
    let l = g.Q.Source.list c.args.source.now in
    let at = g.Q.Source.place c.args.source.now in
    let x = c.args.bo.x in
    let y = c.args.bo.y in
    let part : c.units.result - 0 ≡ s.columns * s.rows = omega (arith, c.units.ensures.value) in
    let cells : take (c.units.result - 0) map ≡ s.cells = ap (λ (i : ℕ). take i map) part in
    let near = near_as s (take (c.units.result - 0) map) x y c.get_segment_pred-prediction.result.0 cells c.get_segment_pred-prediction.ensures.prediction in
    let number = number_as s (take (c.units.result - 0) map) x y c.get_segment_pred-prediction.result.1 cells c.get_segment_pred-prediction.ensures.number in
    let reads = c.in_ok-segment.ensures.reads in
    let segment : ℕ = c.in_ok-segment.segment in
    (λ i. (Ok (c.from.ensures i), state_of c.set_cells.new.self.stage c.set_cells.new.map, g.Q.Source.place c.decode_segment.new.source))
    ∙ block_read (length map) l (question.Segment x y c.args.bsize c.args.skip) s at x y c.args.bsize c.in_ok-block.block (change.Segment segment) segment
    c.decode_segment.new.self.stage.tables.words _ _ (state_of c.decode_segment.new.self.stage map) _ (λ v. refl)
    (block_asked_first s.columns s.rows (length map) x y c.args.bsize) c.in_ok-block.ensures.answer
    (from_start reads refl ∙ (λ i. read s.words (segment_tree c.args.skip (number i) s.last (near i)) at 0 at (drop at l)))
    (read_state c.decode_segment.new.self.stage c.args.self.now.stage map reads.kept) c.set_cells.ensures.state
