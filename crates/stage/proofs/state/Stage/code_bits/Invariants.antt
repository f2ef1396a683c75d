use Rattle.std.proofs.Common.{◌≤◌}
use Rattle.model.specs.Vector.{bits_of, bits_tree}
use Rattle.stage.specs.Coding.{Coded, moment}
use Rattle.stage.proofs.state.Stage.code_bits.Given as goal

abbrev pub invariant-loop-i : goal.invariant-loop-i
invariant-loop-i g l =
    (l.i ≤ l.n)
    × Coded (bits_tree l.first l.i) (bits_of l.i l.bits) l.i 0
    (moment l.initial.self l.initial.log (g.S.Sink.rooms l.initial.sink) (g.S.Sink.list l.initial.sink))
    (moment l.self l.log (g.S.Sink.rooms l.sink) (g.S.Sink.list l.sink))
