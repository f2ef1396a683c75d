use Rattle.std.proofs.Common.{◌≡◌, ℕ, ◌+◌, ◌-◌, ◌<◌, List, length, take, drop, Ok, Err, refl, ap, ◌∙◌, subst, arith, rules}
use borrow.Rule.Slice.PartMut.{mid_of}
use Rattle.std.proofs.lemmas.Result.{err_from_is_err_and}
use Rattle.cdf.specs.Words.{Table, table, words_of, updated}
use Rattle.cdf.proofs.Layouts.{table_inside}
use Rattle.cdf.proofs.Symbols.{length_table}
use Rattle.model.specs.Coders.{whole}
use Rattle.record.specs.Sources.{next_answer, next_place}
use Rattle.stage.specs.Reads.{point}
use Rattle.stage.proofs.ReadPoints.{took_none, took_symbol}
use Rattle.stage.proofs.ReadTrees.{next_below}
use Rattle.stage.proofs.Symbols.{symbol_words}
use Rattle.stage.proofs.reader.Reader.read_symbol.Goals as goal

pub overflow_add-table : goal.overflow_add-table
overflow_add-table g c = let inside = table_inside (table c.args.table.first c.args.table.n) c.args.table.there in search rules

pub offset_bounds-words-table : goal.offset_bounds-words-table
offset_bounds-words-table g c = let inside = table_inside (table c.args.table.first c.args.table.n) c.args.table.there in search rules

pub slice_bounds-next-end : goal.slice_bounds-next-end
slice_bounds-next-end g c = let inside = table_inside (table c.args.table.first c.args.table.n) c.args.table.there in search rules

-- the words that the source is asked by are the table's
asked : (first n : ℕ) (v w : List ℕ) → v ≡ w → mid_of first (first + n - first) v ≡ words_of w (table first n)
asked first n v w same = let width : first + n - first ≡ n = omega arith in ap (mid_of first (first + n - first)) same ∙ ap (λ (k : ℕ). take k (drop first w)) width

pub returns-in_err-s-clause-took : goal.returns-in_err-s-clause-took
returns-in_err-s-clause-took g c =
    let t : Table = table c.args.table.first c.args.table.n in
    let w : List ℕ = c.args.self.now.stage.tables.words in
    let l = g.Q.Source.list c.args.source.now in
    let m = point c.args.self.now.stage l (g.Q.Source.place c.args.source.now) in
    let n = point c.args.self.now.stage (g.Q.Source.list c.next.new.self) (g.Q.Source.place c.next.new.self) in
    let p = err_from_is_err_and c.from_residual.result c.from_residual.ensures.1 in
    let first : c.in_err-s.field-0.0.1 ≡ c.args.table.first = search rules in
    let given : Err c.in_err-s.field-0.0.0 ≡ c.next.result = search rules in
    let by = asked c.args.table.first c.args.table.n c.words-words.result.now w c.words-words.ensures in
    rw (p.1, p.2, first) (took_none (whole t) m n c.in_err-s.field-0.0.0 (given ∙ c.next.ensures.answer ∙ ap (next_answer l m.place) by)
    (length_table w t c.args.table.there c.args.self.now.stage.tables.long) c.next.ensures.list (c.next.ensures.place ∙ ap (next_place l m.place) by) refl)

pub returns-clause-took : goal.returns-clause-took
returns-clause-took g c =
    let t : Table = table c.args.table.first c.args.table.n in
    let w : List ℕ = c.args.self.now.stage.tables.words in
    let l = g.Q.Source.list c.args.source.now in
    let m = point c.args.self.now.stage l (g.Q.Source.place c.args.source.now) in
    let given : Ok c.in_ok-s.s ≡ c.next.result = search rules in
    let by = asked c.args.table.first c.args.table.n c.words-words.result.now w c.words-words.ensures in
    let long : length (words_of w t) ≡ c.args.table.n = length_table w t c.args.table.there c.args.self.now.stage.tables.long in
    let answer = given ∙ c.next.ensures.answer ∙ ap (next_answer l m.place) by in
    let below : c.in_ok-s.s < c.args.table.n = subst (λ n. c.in_ok-s.s < n) long (next_below l m.place (words_of w t) c.in_ok-s.s answer) in
    let adapted : c.symbol_with_update.new.self.words ≡ updated w t c.in_ok-s.s = search (rules, symbol_words) in
    took_symbol (whole t) m _ c.in_ok-s.s answer long c.next.ensures.list (c.next.ensures.place ∙ ap (next_place l m.place) by) adapted
    (record { tile = refl; last = refl; contexts = refl; journal = refl })
