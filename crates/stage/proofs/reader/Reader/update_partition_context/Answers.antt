use Rattle.std.proofs.Common.{[], length}
use Rattle.stage.proofs.ReadCalls.{none_marked, update_closed, update_read}
use Rattle.stage.proofs.Symbols.{none_open}
use Rattle.stage.proofs.reader.Reader.update_partition_context.Goals as goal

pub invariant_of-self : goal.invariant_of-self
invariant_of-self c =
    let r = c.args.self.now in
    let e = c.update_partition_context.ensures in
    record { closed = none_marked c.update_partition_context.new.self.journal (update_closed 0 (λ es. 0) _ (none_open r.stage.journal r.closed) _ _ _ _ _ _ (e.step [] (λ es. 0) [])) }

pub returns-clause-step : goal.returns-clause-step
returns-clause-step c memory es p =
    let r = c.args.self.now in
    let e = c.update_partition_context.ensures in
    update_read (length memory) (λ es. 0) _ (none_open r.stage.journal r.closed) es p _ _ _ _ _ _ (e.step memory (λ es. 0) [])
