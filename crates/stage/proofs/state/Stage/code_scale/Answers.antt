use Rattle.std.proofs.Common.{arith, rules}
use Rattle.model.proofs.TreeTables.{alpha_in_layout}
use Rattle.stage.proofs.state.Stage.code_scale.Goals as goal

pub invariant_of-symbol : goal.invariant_of-symbol
invariant_of-symbol g c = record { there = alpha_in_layout c.in-Some.context (search rules) }

pub symbol-requires : goal.symbol-requires
symbol-requires g c =
    record {
      symbol = search rules;
      room = search rules;
      small = λ some few. absurd (omega arith);
      large = λ some many. search rules;
    }
