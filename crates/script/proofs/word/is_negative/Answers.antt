use Rattle.std.proofs.Common.{lit<, rules}
use Rattle.std.proofs.lemmas.Str.Pattern.{strip_prefix_char}
use Rattle.script.proofs.Reading.{after_minus}
use Rattle.script.proofs.word.is_negative.Goals as goal

pub returns : goal.returns
returns c =
    let bare = strip_prefix_char 45 c.args.word.now c.strip_prefix.result c.strip_prefix.ensures.cases (lit< tt) in
    after_minus c.args.word.now c.strip_prefix.result c.is_some_and.result bare (search rules)
