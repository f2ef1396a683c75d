use Rattle.std.proofs.Common.{◌≡◌, ℕ, List, length, sum_by, sym, ◌∙◌, arith, rules}
use Rattle.cdf.specs.Entries.{edge_symbols}
use Rattle.cdf.specs.Words.{width_of}
use Rattle.cdf.proofs.Edges.{edge_most, widths_sum}
use Rattle.cdf.proofs.tables.cdf.Cdf.gather.Goals as goal

pub sum-requires-clause-fits : goal.sum-requires-clause-fits
sum-requires-clause-fits c =
    let most = edge_most c.args.self.now.words.now c.args.edge c.args.self.now.lawful in
    search rules

pub returns : goal.returns
returns c =
    let vs : List ℕ = c.args.self.now.words.now in
    let sum : c.sum.result ≡ sum_by (width_of (length vs) vs) (edge_symbols c.args.edge) = search rules in
    record { value = sum ∙ sym (widths_sum vs (edge_symbols c.args.edge)); most = omega (arith, sum, edge_most vs c.args.edge c.args.self.now.lawful) }
