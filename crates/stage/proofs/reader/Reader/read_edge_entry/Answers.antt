use Rattle.std.proofs.Common.{◌≡◌, ◌-◌, Ok, Err, ap, ◌∙◌, rules}
use Rattle.std.proofs.lemmas.Result.{err_from_is_err_and}
use Rattle.cdf.specs.Entries.{edge_symbols}
use Rattle.cdf.specs.Words.{table}
use Rattle.model.specs.Coders.{edge}
use Rattle.stage.specs.Reads.{point}
use Rattle.stage.proofs.ReadPoints.{entry_read, entry_stops}
use Rattle.stage.proofs.reader.Reader.read_edge_entry.Goals as goal

pub returns-in_err-s-clause-reads : goal.returns-in_err-s-clause-reads
returns-in_err-s-clause-reads g c =
    let m = point c.args.self.now.stage (g.Q.Source.list c.args.source.now) (g.Q.Source.place c.args.source.now) in
    let n = point c.args.self.now.stage (g.Q.Source.list c.read_edge_symbol.new.source) (g.Q.Source.place c.read_edge_symbol.new.source) in
    let p = err_from_is_err_and c.from_residual.result c.from_residual.ensures.1 in
    let given : c.read_edge_symbol.result ≡ Err c.in_err-s.field-0.0.0 = search rules in
    let number : c.in_err-s.field-0.0.1 ≡ c.place.result - c.args.start = search rules in
    rw (p.1, p.2) (entry_stops (edge (table c.args.table.first c.args.table.n) (edge_symbols c.args.edge)) m n c.read_edge_symbol.result c.args.start c.in_err-s.field-0.0.1 c.in_err-s.field-0.0.0
    c.read_edge_symbol.ensures given (number ∙ ap (λ i. i - c.args.start) c.place.ensures))

pub returns-clause-reads : goal.returns-clause-reads
returns-clause-reads g c =
    let m = point c.args.self.now.stage (g.Q.Source.list c.args.source.now) (g.Q.Source.place c.args.source.now) in
    let n = point c.args.self.now.stage (g.Q.Source.list c.read_edge_symbol.new.source) (g.Q.Source.place c.read_edge_symbol.new.source) in
    let given : c.read_edge_symbol.result ≡ Ok c.in_ok-s.s = search rules in
    entry_read (edge (table c.args.table.first c.args.table.n) (edge_symbols c.args.edge)) m n c.read_edge_symbol.result c.args.start c.in_ok-s.s c.read_edge_symbol.ensures given
