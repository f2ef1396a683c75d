-- A test at each of a run of numbers, and what a change in one place leaves of it.
use Rattle.std.proofs.Common.{◌≡◌, ℕ, zero, suc, ◌+◌, ◌-◌, ◌<◌, ◌≤◌, Bool, true, ◌&&◌, T, ◌⊎◌, sym, ap, subst, inl, inr, arith}
use native.Mathlib.Decide.{ℕ_discrete, dec_lt}
use Rattle.cdf.specs.Limits.{all_from}
use Rattle.cdf.proofs.Booleans.{and_first, and_second, and_both, same_test}

pub all_at : (f : ℕ → Bool) (n k : ℕ) → T (all_from f k n) → (i : ℕ) → k ≤ i → i < k + n → T (f i)
all_at f zero k t i a b = absurd (omega arith)
all_at f (suc n) k t i a b = go (ℕ_discrete k i) (all_at f n (suc k) (and_second (f k) (all_from f (suc k) n) t) i)
  where
    go : Dec (k ≡ i) → (suc k ≤ i → i < suc k + n → T (f i)) → T (f i)
    go (yes e) rec = subst (λ x. T (f x)) e (and_first (f k) (all_from f (suc k) n) t)
    go (no e) rec = rec (omega arith) (omega arith)

pub all_each : (f : ℕ → Bool) (n k : ℕ) → ((i : ℕ) → k ≤ i → i < k + n → T (f i)) → T (all_from f k n)
all_each f zero k h = tt
all_each f (suc n) k h = and_both (f k) (all_from f (suc k) n) (h k (omega arith) (omega arith)) (all_each f n (suc k) (λ i a b. h i (omega arith) (omega arith)))

-- up to a bound, from one number on and from the next
pub all_step : (f : ℕ → Bool) (k upto : ℕ) → k < upto → all_from f k (upto - k) ≡ (f k && all_from f (suc k) (upto - suc k))
all_step f k upto h = let e : upto - k ≡ suc (upto - suc k) = omega arith in ap (all_from f k) e

pub all_none : (f : ℕ → Bool) (k upto : ℕ) → upto ≤ k → all_from f k (upto - k) ≡ true
all_none f k upto h = let e : upto - k ≡ 0 = omega arith in ap (all_from f k) e

-- where f passes everywhere, and g differs from f at the m numbers from a on at most, g passes everywhere if it passes there
pub all_local : (f g : ℕ → Bool) (n a m : ℕ) → T (all_from f 0 n) → a + m ≤ n → ((i : ℕ) → i < n → (i < a) ⊎ (a + m ≤ i) → g i ≡ f i)
    → all_from g 0 n ≡ all_from g a m
all_local f g n a m t h same = same_test (all_from g 0 n) (all_from g a m) (λ e. all_each g m a (λ i lo hi. all_at g n 0 e i (omega arith) (omega arith))) (λ e. all_each g n 0 (λ i lo hi. there e i (omega arith) (dec_lt i a) (dec_lt i (a + m))))
  where
    there : T (all_from g a m) → (i : ℕ) → i < n → Dec (i < a) → Dec (i < a + m) → T (g i)
    there e i b (yes l) d = subst T (sym (same i b (inl l))) (all_at f n 0 t i (omega arith) (omega arith))
    there e i b (no l) (yes u) = all_at g m a e i (omega arith) u
    there e i b (no l) (no u) = subst T (sym (same i b (inr (omega arith)))) (all_at f n 0 t i (omega arith) (omega arith))
