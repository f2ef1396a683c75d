use Rattle.std.proofs.Common.{◌≡◌, true, sym, subst, rules}
use Rattle.cdf.specs.Layout.{in_layout}
use Rattle.cdf.specs.Words.{table}
use Rattle.stage.specs.Vectors.{fraction_first}
use Rattle.stage.proofs.Vectors.{fraction_in_layout}
use Rattle.stage.proofs.state.vector.NMVComponent.fraction.Goals as goal

pub invariant_of-result : goal.invariant_of-result
invariant_of-result c =
    let from : c.if-class-eq0.first ≡ fraction_first c.args.self.base c.args.class c.args.d = search rules in
    record { there = subst (λ f. in_layout (table f 4) ≡ true) (sym from) (fraction_in_layout c.args.self.base c.args.class c.args.d c.args.self.one c.requires) }
