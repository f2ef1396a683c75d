-- Chroma alphas: their signs, and how each is coded beside the other.
use Rattle.std.specs.Prelude.{ℕ, zero, suc, ◌+◌, ◌-◌, ◌*◌, Bool, not, ◌&&◌, ℤ, pos, negsuc, Some, None, Option, ◌==◌, nat_le}
use Rattle.av1.specs.declared.cfl.CFLSign.{CFLSign}
use Rattle.av1.specs.declared.cfl.CFLSign.TheVariants.{CFL_SIGN_ZERO, CFL_SIGN_NEG, CFL_SIGN_POS}
use Rattle.av1.specs.Vectors.{magnitude}

-- 1 for a negative alpha, 2 for a positive one
abbrev pub sign_of : ℤ → ℕ
sign_of (pos zero) = 0
sign_of (pos (suc a)) = 2
sign_of (negsuc a) = 1

abbrev pub sign_number : CFLSign → ℕ
sign_number CFL_SIGN_ZERO = 0
sign_number CFL_SIGN_NEG = 1
sign_number CFL_SIGN_POS = 2

-- the context of an alpha by its sign and the other's; a zero has none
abbrev pub alpha_context : ℕ → ℕ → Option ℕ
alpha_context zero other = None
alpha_context (suc n) other = Some (3 * n + other)

-- an alpha by its sign and its magnitude less one
abbrev pub alpha_at : ℕ → ℕ → ℤ
alpha_at zero a = pos 0
alpha_at (suc zero) a = negsuc a
alpha_at (suc (suc n)) a = pos (suc a)

-- in -16..16, and not both zero
abbrev pub alphas_allowed : ℤ × ℤ → Bool
alphas_allowed d =
    nat_le (magnitude d.0) 16 && (nat_le (magnitude d.1) 16 && not (magnitude d.0 == 0 && magnitude d.1 == 0))

-- the symbol of both signs
abbrev pub joint_sign : ℤ × ℤ → ℕ
joint_sign d = 3 * sign_of d.0 + sign_of d.1 - 1

-- the context and the symbol of an alpha beside the other; a zero has none
abbrev pub coded_alpha : ℤ → ℤ → Option (ℕ × ℕ)
coded_alpha (pos zero) other = None
coded_alpha (pos (suc a)) other = Some (3 + sign_of other, a)
coded_alpha (negsuc a) other = Some (sign_of other, a)
