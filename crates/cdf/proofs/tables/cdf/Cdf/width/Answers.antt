use Rattle.std.proofs.Common.{arith}
use Rattle.cdf.proofs.Entries.{lawful_words, value_order}
use Rattle.cdf.proofs.tables.cdf.Cdf.width.Goals as goal

pub overflow_sub-result : goal.overflow_sub-result
overflow_sub-result c =
    let t = c.args.self.now in
    rw (c.around-fl.ensures.0, c.around-fl.ensures.1) (value_order t.words.now c.args.s (lawful_words t.words.now t.lawful) (omega arith))
