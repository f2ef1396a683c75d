use Rattle.std.proofs.Common.{◌≡◌, sym, ◌∙◌, rules}
use Rattle.cdf.specs.Layout.{in_layout}
use Rattle.cdf.specs.Words.{table}
use Rattle.cdf.proofs.Layouts.{table_inside}
use Rattle.cdf.proofs.layout.has_table.Goals as goal

pub returns-then-n-gt0 : goal.returns-then-n-gt0
unfolding in_layout
returns-then-n-gt0 c =
    let value : lib.Dec.eqb c.table_size.result c.args.n ≡ in_layout (table c.args.first c.args.n) = search rules in
    record {
      value = value;
      inside = λ e. table_inside (table c.args.first c.args.n) (sym value ∙ e);
    }

pub returns-else-n-gt0-clause-value : goal.returns-else-n-gt0-clause-value
unfolding in_layout
returns-else-n-gt0-clause-value c = search rules
