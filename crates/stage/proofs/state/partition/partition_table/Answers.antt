use Rattle.std.proofs.Common.{◌≡◌, ◌+◌, ◌-◌, ◌*◌, ◌<◌, arith, rules}
use Rattle.model.proofs.TreeTables.{split_in_layout, partition_in_layout}
use Rattle.stage.proofs.Partitions.{split_table, larger_table}
use Rattle.stage.proofs.state.partition.partition_table.Goals as goal

pub returns-then-level-eq0 : goal.returns-then-level-eq0
returns-then-level-eq0 c =
    let none : c.args.level ≡ 0 = search rules in
    split_table c.args.level c.args.ctx none

pub returns : goal.returns
returns c =
    let some : 0 < c.args.level = search rules in
    larger_table c.args.level c.args.ctx some

pub invariant_of-result : goal.invariant_of-result
invariant_of-result c = record { there = split_in_layout c.args.ctx (omega (arith, c.requires.1)) }

pub invariant_of-result-2 : goal.invariant_of-result-2
invariant_of-result-2 c = record { there = partition_in_layout (4 * (c.args.level - 1) + c.args.ctx) (omega (arith, c.requires.0, c.requires.1)) }
