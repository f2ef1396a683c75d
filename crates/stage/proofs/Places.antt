-- Changes at places one after the other.
use Rattle.std.proofs.Common.{◌≡◌, ℕ, suc, ◌+◌, ◌-◌, ◌<◌, List, [], ◌∷◌, ◌++◌, sym, refl, ap, ◌∙◌, ap₂, arith}
use Rattle.cdf.specs.Lists.{from}
use Rattle.stage.specs.Places.{at_each}

-- the next of a row of places, and the rest
pub next_turn : {A : Type 0} (f g : ℕ → A → A) (at end : ℕ) (a a' z : A) → at < end → g ≡ f → a' ≡ g at a
    → at_each f (from at (end - at)) a ≡ z → at_each f (from (at + 1) (end - (at + 1))) a' ≡ z
next_turn f g at end a a' z l same one all =
    ap₂ (λ j x. at_each f (from j (end - (at + 1))) x) next (one ∙ ap (λ h. h at a) same)
    ∙ sym (ap (λ r. at_each f (from at r) a) left) ∙ all
  where
    next : at + 1 ≡ suc at
    next = omega arith

    left : end - at ≡ suc (end - (at + 1))
    left = omega arith

pub each_append : {A : Type 0} (f : ℕ → A → A) (is js : List ℕ) (a : A) → at_each f (is ++ js) a ≡ at_each f js (at_each f is a)
each_append f [] js a = refl
each_append f (i ∷ is) js a = each_append f is js (f i a)
