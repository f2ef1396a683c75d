-- A test that the checker computes at every number below a bound.
use Rattle.std.proofs.Common.{◌≡◌, ℕ, zero, suc, ◌<◌, Bool, true, ◌&&◌, T, subst, arith}
use native.Mathlib.Decide.{ℕ_discrete}
use Rattle.cdf.proofs.Booleans.{and_first, and_second, T→true}

abbrev pub all_below : ℕ → (ℕ → Bool) → Bool
all_below zero f = true
all_below (suc n) f = f n && all_below n f

pub all_below_at : (n : ℕ) (f : ℕ → Bool) → T (all_below n f) → (i : ℕ) → i < n → T (f i)
all_below_at zero f h i l = absurd (omega arith)
all_below_at (suc n) f h i l = go (ℕ_discrete n i) (all_below_at n f (and_second (f n) (all_below n f) h) i)
  where
    go : Dec (n ≡ i) → (i < n → T (f i)) → T (f i)
    go (yes e) rec = subst (λ k. T (f k)) e (and_first (f n) (all_below n f) h)
    go (no e) rec = rec (omega arith)

pub true_below : (n : ℕ) (f : ℕ → Bool) → T (all_below n f) → (i : ℕ) → i < n → f i ≡ true
true_below n f h i l = T→true (f i) (all_below_at n f h i l)
