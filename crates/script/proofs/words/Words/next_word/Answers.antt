use Rattle.std.proofs.Common.{drop, sym, ap, ◌∙◌, rules}
use Rattle.script.specs.Statements.{first}
use Rattle.script.proofs.Splitting.{cut, no_word, one_word, behind_blanks}
use Rattle.script.proofs.words.Words.next_word.Goals as goal

pub split_at-requires : goal.split_at-requires
split_at-requires c =
    let b = c.count_blanks.ensures in
    behind_blanks c.args.self.now.rest.now c.count_blanks.result (search rules) b.within b.blanks

pub returns-then-is_empty : goal.returns-then-is_empty
returns-then-is_empty c =
    let b = c.count_blanks.ensures in
    let w = c.word_len.ensures in
    let at = cut c.args.self.now.rest.now c.split_at.result.1.now c.split_at-2.result.0.now c.split_at-2.result.1.now c.count_blanks.result c.word_len.result
    b.within b.blanks b.dark c.split_at.ensures.back w.word w.end c.split_at-2.ensures.front_len c.split_at-2.ensures.front c.split_at-2.ensures.back in
    let none = no_word _ _ _ _ _ at (search rules) in
    record { value = ap first (sym none.0); after = none.1 ∙ ap (drop 1) (sym none.0) }

pub returns : goal.returns
returns c =
    let b = c.count_blanks.ensures in
    let w = c.word_len.ensures in
    let at = cut c.args.self.now.rest.now c.split_at.result.1.now c.split_at-2.result.0.now c.split_at-2.result.1.now c.count_blanks.result c.word_len.result
    b.within b.blanks b.dark c.split_at.ensures.back w.word w.end c.split_at-2.ensures.front_len c.split_at-2.ensures.front c.split_at-2.ensures.back in
    let one = one_word _ _ _ _ _ at (search rules) in
    record { value = ap first (sym one); after = ap (drop 1) (sym one) }
