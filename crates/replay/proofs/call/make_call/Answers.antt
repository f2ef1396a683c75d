use Rattle.std.proofs.Common.{refl, sym, ap₂, ◌∙◌, to_z-of_z, w32, rules}
use Rattle.model.specs.Calls.{decision_step, segment_step, update_step, row_step, open_step, back_step, keep_step}
use Rattle.stage.specs.View.{lanes}
use Rattle.av1.specs.declared.call.Answer.TheVariants as told
use Rattle.av1.specs.declared.call.Call.TheVariants as call
use Rattle.replay.proofs.Calls.{call_made, numbered, done}
use Rattle.replay.proofs.call.make_call.Goals as goal

pub returns-in-Partition-clause-step : goal.returns-in-Partition-clause-step
unfolding decision_step
returns-in-Partition-clause-step g c =
    call_made told.Wrote _ _ _ c.in-Partition.is c.map.ensures.cases (λ x y h. h)
    (c.write_partition.ensures.step c.args.map.now) refl

pub returns-in-Skip-clause-step : goal.returns-in-Skip-clause-step
unfolding decision_step
returns-in-Skip-clause-step g c =
    call_made told.Wrote _ _ _ c.in-Skip.is c.map-in-Skip.ensures.cases (λ x y h. h)
    c.write_skip.ensures.step refl

pub returns-in-Segment-clause-step : goal.returns-in-Segment-clause-step
unfolding segment_step
returns-in-Segment-clause-step g c =
    call_made numbered _ _ _ c.in-Segment.is c.map-in-Segment.ensures.cases (λ x y h. search rules)
    c.write_segmentation.ensures.step refl

pub returns-in-Alphas-clause-step : goal.returns-in-Alphas-clause-step
unfolding decision_step
returns-in-Alphas-clause-step g c =
    call_made told.Wrote _ _ _
    (c.in-Alphas.is ∙ sym (ap₂ call.Alphas (to_z-of_z {w = w32} (search rules)) (to_z-of_z {w = w32} (search rules))))
    c.map-in-Alphas.ensures.cases (λ x y h. h)
    (c.write_cfl_alphas.ensures.step c.args.map.now) refl

pub returns-in-Vector-clause-step : goal.returns-in-Vector-clause-step
unfolding decision_step
returns-in-Vector-clause-step g c =
    call_made told.Wrote _ _ _
    (c.in-Vector.is ∙ sym (ap₂ (λ a b. call.Vector a b c.in-Vector.precision) (to_z-of_z {w = w32} (search rules)) (to_z-of_z {w = w32} (search rules))))
    c.map-in-Vector.ensures.cases (λ x y h. h)
    (c.write_mv.ensures.step c.args.map.now) refl

pub returns-in-ContextUpdate-clause-step : goal.returns-in-ContextUpdate-clause-step
unfolding update_step
returns-in-ContextUpdate-clause-step g c =
    call_made done _ _ _ c.in-ContextUpdate.is c.map-in-ContextUpdate.ensures.cases (λ x y h. search rules)
    (c.update_partition_context.ensures.step c.args.map.now (g.S.Sink.rooms c.args.sink.now) (g.S.Sink.list c.args.sink.now)) refl

pub returns-in-RowStart-clause-step : goal.returns-in-RowStart-clause-step
unfolding row_step
returns-in-RowStart-clause-step g c =
    call_made done _ _ _ c.in-RowStart.is c.map-in-RowStart.ensures.cases (λ x y h. search rules)
    (c.reset_left_contexts.ensures.step c.args.map.now (g.S.Sink.rooms c.args.sink.now) (lanes c.args.log.now) (g.S.Sink.list c.args.sink.now)) refl

pub returns-in-Open-clause-step : goal.returns-in-Open-clause-step
unfolding open_step
returns-in-Open-clause-step g c =
    call_made told.Opened _ _ _ c.in-Open.is c.map-in-Open.ensures.cases (λ x y h. h)
    (c.open_at.ensures.step c.args.map.now (g.S.Sink.rooms c.args.sink.now) (lanes c.args.log.now)) refl

pub returns-in-TakeBack-clause-step : goal.returns-in-TakeBack-clause-step
unfolding back_step
returns-in-TakeBack-clause-step g c =
    call_made done _ _ _ c.in-TakeBack.is c.map-in-TakeBack.ensures.cases (λ x y h. search rules)
    c.take_back_at.ensures.step refl

pub returns-in-Keep-clause-step : goal.returns-in-Keep-clause-step
unfolding keep_step
returns-in-Keep-clause-step g c =
    call_made done _ _ _ c.in-Keep.is c.map-in-Keep.ensures.cases (λ x y h. search rules)
    (c.keep_at.ensures.step c.args.map.now (g.S.Sink.rooms c.args.sink.now) (lanes c.args.log.now) (g.S.Sink.list c.args.sink.now)) refl
