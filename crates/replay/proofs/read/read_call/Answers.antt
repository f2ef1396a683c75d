use Rattle.std.proofs.Common.{cond, Some, None, refl, rules}
use Rattle.std.proofs.lemmas.Result.{err_from_is_err_and}
use Rattle.av1.specs.declared.call.Call.TheVariants as call
use Rattle.av1.specs.Partitions.{number}
use Rattle.replay.proofs.Reading.{read_made, read_shown, read_turned, segment_stood}
use Rattle.replay.proofs.read.read_call.Goals as goal

pub returns-in-Partition-clause-step : goal.returns-in-Partition-clause-step
returns-in-Partition-clause-step g c =
    read_made _ number (λ p. record { call = call.Partition _ _ p; segment = 0 }) _ _ _ _ _ _ c.in-Partition.is c.map.ensures.cases (λ x y h. search rules) (λ x. refl) (c.read_partition.ensures.step c.args.map.now)

pub returns-in-Skip-clause-step : goal.returns-in-Skip-clause-step
returns-in-Skip-clause-step g c =
    read_made _ (λ d. d) (λ d. record { call = call.Skip _ _ d; segment = 0 }) _ _ _ _ _ _ c.in-Skip.is c.map-in-Skip.ensures.cases (λ x y h. search rules) (λ x. refl) c.read_skip.ensures.step

pub returns-in-Segment-clause-step : goal.returns-in-Segment-clause-step
returns-in-Segment-clause-step g c =
    read_made _ (λ d. d) (λ d. record { call = call.Segment _ _ (cond c.in-Segment.skip None (Some d)); segment = d }) _ _ _ _ _ _ c.in-Segment.is c.map-in-Segment.ensures.cases (λ x y h. search rules) (segment_stood _ _ c.in-Segment.skip) c.read_segmentation.ensures.step

pub returns-in-Alphas-clause-step : goal.returns-in-Alphas-clause-step
returns-in-Alphas-clause-step g c =
    read_made _ (λ d. d) (λ d. record { call = call.Alphas d.0 d.1; segment = 0 }) _ _ _ _ _ _ c.in-Alphas.is c.map-in-Alphas.ensures.cases (λ x y h. search rules) (λ x. refl) (c.read_cfl_alphas.ensures.step c.args.map.now)

pub returns-in-Vector-clause-step : goal.returns-in-Vector-clause-step
returns-in-Vector-clause-step g c =
    read_made _ (λ d. d) (λ d. record { call = call.Vector d.0 d.1 c.in-Vector.precision; segment = 0 }) _ _ _ _ _ _ c.in-Vector.is c.map-in-Vector.ensures.cases (λ x y h. search rules) (λ x. refl) (c.read_mv.ensures.step c.args.map.now)

pub returns-in_ok-update_partition_context-in-ContextUpdate-clause-step : goal.returns-in_ok-update_partition_context-in-ContextUpdate-clause-step
returns-in_ok-update_partition_context-in-ContextUpdate-clause-step g c =
    read_shown _ _ _ _ _ tt (record { call = call.ContextUpdate _ _ _; segment = 0 }) c.in-ContextUpdate.is refl
    (c.in_ok-update_partition_context-in-ContextUpdate.ensures.step c.args.map.now (g.Q.Source.list c.args.source.now) (g.Q.Source.place c.args.source.now))

pub returns-in_err-update_partition_context-in-ContextUpdate-clause-step : goal.returns-in_err-update_partition_context-in-ContextUpdate-clause-step
returns-in_err-update_partition_context-in-ContextUpdate-clause-step g c =
    let p = err_from_is_err_and c.from_residual.result c.from_residual.ensures.1 in
    rw (p.1, p.2)
    (read_turned _ _ _ _ _ _ c.in-ContextUpdate.is
    (c.in_err-update_partition_context-in-ContextUpdate.ensures.step c.args.map.now (g.Q.Source.list c.args.source.now) (g.Q.Source.place c.args.source.now)))

pub returns-in-RowStart-clause-step : goal.returns-in-RowStart-clause-step
returns-in-RowStart-clause-step g c =
    read_shown _ _ _ _ _ tt (record { call = call.RowStart; segment = 0 }) c.in-RowStart.is refl (c.reset_left_contexts.ensures c.args.map.now (g.Q.Source.list c.args.source.now) (g.Q.Source.place c.args.source.now))
