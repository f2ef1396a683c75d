-- Chroma alphas as a tree of symbols: a joint sign, then each alpha that is not zero.
use Rattle.std.specs.Prelude.{ℕ, zero, suc, ◌+◌, ◌*◌, ◌/◌, ◌%◌, List, [], ◌∷◌, ◌++◌, ℤ, pos, negsuc}
use Rattle.av1.specs.Alphas.{joint_sign}
use Rattle.model.specs.Tree.{Syntax, done, and_then, read_by, one}

-- a sign of 1 is negative, of 2 positive; the symbol is the magnitude less one
abbrev pub alpha_value : ℕ → ℕ → ℤ
alpha_value zero a = negsuc a
alpha_value (suc n) a = pos (suc a)

-- an alpha by its sign and the other's: none where the sign is zero
abbrev pub alpha_tree : ℕ → ℕ → Syntax ℤ
alpha_tree zero other = done (pos 0)
alpha_tree (suc n) other = read_by (alpha_value n) (one (206 + 16 * (3 * n + other)) 16)

abbrev pub alphas_tree : Syntax (ℤ × ℤ)
alphas_tree =
    and_then (one 22 8) (λ j.
    and_then (alpha_tree ((j + 1) / 3) ((j + 1) % 3)) (λ u.
    read_by (λ v. (u, v)) (alpha_tree ((j + 1) % 3) ((j + 1) / 3))))

abbrev pub alpha_path : ℤ → List ℕ
alpha_path (pos zero) = []
alpha_path (pos (suc a)) = a ∷ []
alpha_path (negsuc a) = a ∷ []

abbrev pub alphas_path : ℤ × ℤ → List ℕ
alphas_path d = joint_sign d ∷ (alpha_path d.0 ++ alpha_path d.1)
