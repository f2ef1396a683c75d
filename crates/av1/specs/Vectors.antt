-- Motion vectors: a component by its sign and magnitude, and a magnitude less one by its class and its offset there.
use Rattle.std.specs.Prelude.{◌≡◌, ℕ, zero, suc, ◌-◌, ◌*◌, ◌^◌, if◌then◌else◌, ℤ, pos, negsuc, neg_ℤ, nat_lt}

abbrev pub magnitude : ℤ → ℕ
magnitude (pos n) = n
magnitude (negsuc n) = suc n

-- 1 for a negative component
abbrev pub sign_bit : ℤ → ℕ
sign_bit (pos n) = 0
sign_bit (negsuc n) = 1

-- a component by its sign and magnitude
abbrev pub joined : ℕ → ℕ → ℤ
joined zero m = pos m
joined (suc n) m = neg_ℤ (pos m)

abbrev pub JoinUndoesSplit : Type 0
JoinUndoesSplit = (d : ℤ) → joined (sign_bit d) (magnitude d) ≡ d

-- a component that is not zero, by its sign and its magnitude less one
abbrev pub signed : ℕ → ℕ → ℤ
signed zero m = pos (suc m)
signed (suc n) m = negsuc m

abbrev pub nonzero : ℤ → ℕ
nonzero (pos zero) = 0
nonzero (pos (suc n)) = 1
nonzero (negsuc n) = 1

-- where a class begins
abbrev pub class_base : ℕ → ℕ
class_base zero = 0
class_base (suc c) = 8 * 2 ^ suc c

-- the class of a magnitude less one: from class c on, with so many left to try
abbrev pub class_from : ℕ → ℕ → ℕ → ℕ
class_from zero c z = c
class_from (suc n) c z = if nat_lt z (8 * 2 ^ suc c) then c else class_from n (suc c) z

unfoldable pub class_of : ℕ → ℕ
class_of z = class_from 10 0 z

abbrev pub offset_of : ℕ → ℕ
offset_of z = z - class_base (class_of z)
