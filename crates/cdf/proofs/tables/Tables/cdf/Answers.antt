use Rattle.std.proofs.Common.{◌≡◌, ℕ, ◌+◌, ◌-◌, ◌≤◌, true, List, length, take, drop, sym, ap, subst, arith}
use borrow.Rule.Slice.PartMut.{mid_of}
use Rattle.cdf.specs.Layout.{descends}
use Rattle.cdf.specs.Words.{table, words_of}
use Rattle.cdf.proofs.Layouts.{table_count, table_lawful}
use Rattle.cdf.proofs.Symbols.{length_table}
use Rattle.cdf.proofs.tables.Tables.cdf.Goals as goal

pub invariant_of-result : goal.invariant_of-result
invariant_of-result c =
    let t = table c.args.first c.args.n in
    let w = c.args.self.now.words in
    let listed = sym c.if-not-has_table.ensures.value in
    let width : c.args.n ≡ c.args.first + c.args.n - c.args.first = omega arith in
    let part : words_of w t ≡ mid_of c.args.first (c.args.first + c.args.n - c.args.first) w = ap (λ (k : ℕ). take k (drop c.args.first w)) width in
    let long : length (words_of w t) ≡ c.args.n = length_table w t listed c.args.self.now.long in
    record {
      lawful = subst (λ (vs : List ℕ). descends 32768 vs ≡ true) part (table_lawful w t listed c.args.self.now.fits);
      least = subst (λ (vs : List ℕ). 2 ≤ length vs) part (omega (arith, long, (table_count t listed).0));
      most = subst (λ (vs : List ℕ). length vs ≤ 16) part (omega (arith, long, (table_count t listed).1));
    }
