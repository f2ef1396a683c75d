use Rattle.std.proofs.Common.{arith}
use Rattle.cdf.proofs.Entries.{entry_lawful}
use Rattle.cdf.proofs.tables.cdf.Cdf.entry.Goals as goal

pub returns-clause-lawful : goal.returns-clause-lawful
returns-clause-lawful c =
    let t = c.args.self.now in
    rw (c.around-fl.ensures.0, c.around-fl.ensures.1) (entry_lawful t.words.now c.args.s t.lawful t.least t.most (omega arith))
