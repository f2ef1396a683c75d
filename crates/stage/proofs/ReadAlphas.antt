-- An alpha read by its sign and the other's.
use Rattle.std.proofs.Common.{◌≡◌, ℕ, zero, suc, ◌+◌, ◌*◌, ℤ, Ok, Err, Result, Some, refl, ◌∙◌, subst}
use Rattle.av1.specs.Alphas.{alpha_at, alpha_context}
use Rattle.model.specs.Alphas.{alpha_tree, alpha_value}
use Rattle.model.specs.Tree.{one}
use Rattle.stage.specs.declared.reader.fault.ReadFault.{ReadFault}
use Rattle.stage.specs.Reads.{Point, Reads}
use Rattle.stage.proofs.ReadPoints.{made, stops_made}

value_same : (n a : ℕ) → alpha_at (suc n) a ≡ alpha_value n a
value_same zero a = refl
value_same (suc n) a = refl

module _ (start : ℕ) (m n : Point) where
  pub alpha_read : (sign other context a : ℕ) (d : ℤ) → Some context ≡ alpha_context sign other → Reads start (one (206 + 16 * context) 16) m n (Ok a) → d ≡ alpha_at sign a
      → Reads start (alpha_tree sign other) m n (Ok d)
  alpha_read zero other context a d h x value = cc
  alpha_read (suc k) other context a d h x value =
      let same : context ≡ 3 * k + other = cc in
      made (alpha_value k) (subst (λ i. Reads start (one (206 + 16 * i) 16) m n (Ok a)) same x) (value ∙ value_same k a)

  pub alpha_stops : (sign other context : ℕ) (f : ReadFault) → Some context ≡ alpha_context sign other → Reads start (one (206 + 16 * context) 16) m n (Err f)
      → Reads start (alpha_tree sign other) m n (Err f)
  alpha_stops zero other context f h x = cc
  alpha_stops (suc k) other context f h x =
      let same : context ≡ 3 * k + other = cc in
      stops_made (alpha_value k) (subst (λ i. Reads start (one (206 + 16 * i) 16) m n (Err f)) same x)

  -- the same by signs that were told apart
  pub signs_as : (sign other a b : ℕ) (r : Result ℤ ReadFault) → sign ≡ a → other ≡ b → Reads start (alpha_tree sign other) m n r → Reads start (alpha_tree a b) m n r
  signs_as sign other a b r e f x = subst (λ i. Reads start (alpha_tree a i) m n r) f (subst (λ i. Reads start (alpha_tree i other) m n r) e x)
