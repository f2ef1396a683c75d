use Rattle.std.proofs.Common.{rules}
use Rattle.std.specs.Str.{bytes_eq}
use Rattle.std.proofs.lemmas.Iterator.{YieldsList-from_slice}
use Rattle.std.proofs.lemmas.Iterator.Consumers.{YieldsList-from_copied}
use Rattle.std.proofs.lemmas.Iterator.Search.{find_from_yields_List}
use borrow.Author.Tests.{tests}
use Rattle.script.proofs.Saying.{names}
use Rattle.script.proofs.name.Named.from_name.Goals as goal

pub returns-clause-names : goal.returns-clause-names
returns-clause-names g c =
    let m = g.Self.Named in
    let w = c.args.word.now in
    let value = find_from_yields_List (λ a. bytes_eq w (m.name a)) _ _ c.find.result c.find.ensures.ran (YieldsList-from_copied (YieldsList-from_slice m.all (search rules))) (λ x b q k. search (rules, tests)) in
    names m.name w m.all c.find.result value g.met.Self.Named.found
