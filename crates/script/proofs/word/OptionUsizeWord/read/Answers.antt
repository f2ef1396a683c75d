use Rattle.std.proofs.Common.{rules}
use Rattle.script.proofs.Saying.{unskipped}
use Rattle.script.proofs.word.OptionUsizeWord.read.Goals as goal

pub returns-in_default : goal.returns-in_default
returns-in_default c = unskipped c.args.word.now c.read.result c.map.result c.in_default.not-skipped c.read.ensures (search rules)
