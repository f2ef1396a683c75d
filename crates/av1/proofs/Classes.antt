-- The class of a magnitude less one is the logarithm of its eighth.
use Rattle.std.proofs.Common.{◌≡◌, ◌≢◌, ℕ, zero, suc, ◌+◌, ◌*◌, ◌/◌, ◌%◌, ◌^◌, ◌<◌, ◌≤◌, min, max, refl, sym, inl, inr, eq-or-lt_of_le, arith, pow_mono, pow-add}
use Rattle.std.proofs.lemmas.Bool.{lt-ltb, le-ltb}
use Rattle.std.proofs.lemmas.Nat.{shl_whole}
use Rattle.av1.specs.Vectors.{class_base, class_from, class_of}

-- the shift that gives a class its base drops no bit
pub base_shifted : (c : ℕ) → c ≢ 0 → c ≤ 10 → (2 * 2 ^ (c + 2)) % 4294967296 ≡ class_base c
base_shifted zero n h = absurd (n refl)
base_shifted (suc c) n h =
    let whole : (2 * 2 ^ (suc c + 2)) % 4294967296 ≡ 2 * 2 ^ (suc c + 2) = shl_whole 2 2 (suc c + 2) 32 (omega arith) (omega arith) in
    let parts : 2 ^ (suc c + 2) ≡ 2 ^ suc c * 4 = pow-add 2 (suc c) 2 in
    omega arith

-- a search that starts at or before z's class ends there
found : (n c z l : ℕ) → c ≤ l → l ≤ c + n → (0 < l → 8 * 2 ^ l ≤ z) → (l < c + n → z < 8 * 2 ^ suc l) → class_from n c z ≡ l
found zero c z l h k low high = omega arith
found (suc n) c z l h k low high =
    elim (eq-or-lt_of_le h) [
      | inl e ↦ let f : z < 8 * 2 ^ suc c = rw e (high (omega arith)) in rw (lt-ltb z (8 * 2 ^ suc c) f) e
      | inr o ↦
          let p : 2 ^ suc c ≤ 2 ^ l = pow_mono o in
          let f : 8 * 2 ^ suc c ≤ z = omega arith in
          rw (le-ltb z (8 * 2 ^ suc c) f) (found n (suc c) z l o (omega arith) low (λ m. high (omega arith)))
    ]

-- in what follows l is the whole part of the logarithm of z's eighth, or 0
low_end : (z l : ℕ) → 2 ^ l ≤ max (z / 8) 1 → 0 < min l 10 → 8 * 2 ^ (min l 10) ≤ z
low_end z l low p =
    let shorter : min l 10 ≤ l = omega arith in
    let below : 2 ^ (min l 10) ≤ 2 ^ l = pow_mono shorter in
    let two : 2 ^ 1 ≤ 2 ^ l = pow_mono {i = 1} (omega arith) in
    omega arith

pub class_is : (z l : ℕ) → 2 ^ l ≤ max (z / 8) 1 → z / 8 < 2 * 2 ^ l → min l 10 ≡ class_of z
unfolding class_of
class_is z l low high = sym (found 10 0 z (min l 10) (omega arith) (omega arith) (low_end z l low) above)
  where
    above : min l 10 < 10 → z < 8 * 2 ^ suc (min l 10)
    above k = let e : min l 10 ≡ l = omega arith in rw e (omega arith)

pub base_below : (z l : ℕ) → 2 ^ l ≤ max (z / 8) 1 → class_base (min l 10) ≤ z
base_below z l low = base_at (min l 10) (low_end z l low)
  where
    base_at : (c : ℕ) → (0 < c → 8 * 2 ^ c ≤ z) → class_base c ≤ z
    base_at zero f = omega arith
    base_at (suc c) f = f (omega arith)
