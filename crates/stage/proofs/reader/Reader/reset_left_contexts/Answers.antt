use Rattle.std.proofs.Common.{[], length}
use Rattle.stage.proofs.ReadCalls.{none_marked, row_closed, row_read, no_lanes}
use Rattle.stage.proofs.Symbols.{none_open}
use Rattle.stage.proofs.reader.Reader.reset_left_contexts.Goals as goal

pub invariant_of-self : goal.invariant_of-self
invariant_of-self c =
    let r = c.args.self.now in
    let e = c.reset_left_contexts.ensures in
    record { closed = none_marked c.reset_left_contexts.new.self.journal (row_closed 0 (λ es. 0) _ (none_open r.stage.journal r.closed) _ _ (e.step [] (λ es. 0) no_lanes [])) }

pub returns : goal.returns
returns c memory es p =
    let r = c.args.self.now in
    let e = c.reset_left_contexts.ensures in
    row_read (length memory) (λ es. 0) _ (none_open r.stage.journal r.closed) es p _ _ (e.step memory (λ es. 0) no_lanes [])
