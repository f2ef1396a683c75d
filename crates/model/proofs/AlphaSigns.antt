-- The alphas' symbols lead to them.
use Rattle.std.proofs.Common.{zero, suc, ◌≤◌, not, ◌&&◌, T, eqb, leb, ℤ, pos, negsuc, refl, arith, leb→le}
use Rattle.av1.specs.Alphas.{alphas_allowed}
use Rattle.av1.specs.Vectors.{magnitude}
use Rattle.cdf.proofs.Booleans.{and_first, and_second}
use Rattle.model.specs.Alphas.{alphas_path, alphas_tree}
use Rattle.model.specs.Tree.{Leads}

leads : (u v : ℤ) → magnitude u ≤ 16 → magnitude v ≤ 16 → T (not (eqb (magnitude u) 0 && eqb (magnitude v) 0)) → Leads alphas_tree (alphas_path (u, v)) (u, v)
leads (pos zero) (pos zero) h k n = absurd n
leads (pos (suc a)) (pos zero) h k n = (omega arith, (omega arith, refl))
leads (negsuc a) (pos zero) h k n = (omega arith, (omega arith, refl))
leads (pos zero) _ h k n = (omega arith, (omega arith, refl))
leads _ _ h k n = (omega arith, (omega arith, (omega arith, refl)))

pub alphas_leads : (d : ℤ × ℤ) → T (alphas_allowed d) → Leads alphas_tree (alphas_path d) d
alphas_leads d h =
    leads d.0 d.1 (leb→le _ 16 (and_first _ _ h)) (leb→le _ 16 (and_first _ _ (and_second (leb (magnitude d.0) 16) _ h)))
    (and_second (leb (magnitude d.1) 16) _ (and_second (leb (magnitude d.0) 16) _ h))
