use Rattle.std.proofs.Common.{◌≡◌, true, ◌||◌, rules}
use Rattle.script.specs.Numbers.{numeral, negative}
use Rattle.script.proofs.Reading.{integer_read}
use Rattle.script.proofs.word.I32Word.read.Goals as goal

pub returns-then-is_negative : goal.returns-then-is_negative
returns-then-is_negative c =
    let some : (numeral c.args.word.now || negative c.args.word.now) ≡ true = search rules in
    integer_read c.args.word.now c.parse.result c.map_err.result c.parse.ensures.value.0 some (search rules)
