use Rattle.std.proofs.Common.{arith, rules}
use Rattle.stage.proofs.Symbols.{small_inside, large_inside}
use Rattle.stage.proofs.state.Journal.log_table.Goals as goal

pub window_of-requires : goal.window_of-requires
window_of-requires c = (omega arith, small_inside c.args.table.first c.args.table.n c.args.table.there (search rules))

pub window_of-requires-else-table-le4 : goal.window_of-requires-else-table-le4
window_of-requires-else-table-le4 c = (omega arith, large_inside c.args.table.first c.args.table.n c.args.table.there (search rules))
