use Rattle.std.proofs.Common.{◌≤◌, unwrap_or, ap, ◌∙◌, arith}
use Rattle.cdf.specs.Layout.{table_sizes}
use Rattle.cdf.proofs.layout.table_size.Goals as goal

pub returns : goal.returns
unfolding table_sizes
returns c =
    let here : c.args.first ≤ c.args.first = omega arith in
    c.from.ensures ∙ c.unwrap_or.ensures ∙ ap (λ o. unwrap_or o 0) c.copied.ensures ∙ c.get.ensures.lookup.4 here 0
