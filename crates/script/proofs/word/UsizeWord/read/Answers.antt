use Rattle.std.proofs.Common.{◌≡◌, true, rules}
use Rattle.script.specs.Numbers.{numeral}
use Rattle.script.proofs.Reading.{number_read}
use Rattle.script.proofs.word.UsizeWord.read.Goals as goal

pub returns-then-is_numeral : goal.returns-then-is_numeral
returns-then-is_numeral c =
    let digits : numeral c.args.word.now ≡ true = search rules in
    number_read c.args.word.now c.parse.result c.map_err.result c.parse.ensures.value.0 digits (search rules)
