-- A vector's symbols lead to it.
use Rattle.std.proofs.lemmas.Bool.{true≢false, false≢true}
use Rattle.std.proofs.Common.{◌≡◌, ℕ, zero, suc, ◌+◌, ◌-◌, ◌*◌, ◌/◌, ◌%◌, ◌^◌, ◌<◌, ◌≤◌, Bool, true, false, cond, not, T, eqb, ltb, leb, ◌∷◌, ◌++◌, ℤ, pos, negsuc, refl, ap, subst, pow-suc, arith, eqb→eq, ltb→lt, leb→le, nltb→le}
use native.Mathlib.Nat.{pow-zero}
use Rattle.av1.specs.declared.mv.MvSubpelPrecision.{MvSubpelPrecision}
use Rattle.av1.specs.declared.mv.MvSubpelPrecision.TheVariants as at
use Rattle.av1.specs.Vectors.{class_base, class_from, class_of, magnitude, nonzero, offset_of, signed}
use Rattle.cdf.proofs.Booleans.{and_first, and_second}
use Rattle.model.proofs.Trees.{leads_by, leads_then}
use Rattle.model.specs.Tree.{Leads, and_then, read_by}
use Rattle.model.specs.Vector.{ComponentLeads, Fits, bits_of, bits_tree, class_width, component_if, component_path, component_tree, fits_precision, fraction_path, fraction_tree, has_col, has_row, high_path, high_tree, in_range, integer_path, integer_tree, path_if, present, step_of, vector_path, vector_tree}

leads_bits : (n f v : ℕ) → v < 2 ^ n → Leads (bits_tree f n) (bits_of n v) v
leads_bits zero f v h = let k : v < 1 = rw pow-zero at h in omega arith
leads_bits (suc n) f v h =
    let k : v < 2 ^ n * 2 = rw pow-suc at h in
    (omega arith, leads_by (bits_tree (f + 2) n) (λ r. v % 2 + 2 * r) (bits_of n (v / 2)) (v / 2) v (leads_bits n (f + 2) (v / 2) (omega arith)) (omega arith))

pub leads_integer : (b c o : ℕ) → o < class_width c → Leads (integer_tree b c) (integer_path c (o / 8)) (o / 8)
leads_integer b zero o h = (omega arith, refl)
leads_integer b (suc c) o h = leads_bits (suc c) (b + 8) (o / 8) (omega arith)

pub leads_fraction : (b : ℕ) (p : MvSubpelPrecision) (c d o : ℕ) → Fits p o → Leads (fraction_tree b p c d) (fraction_path p ((o / 2) % 4)) ((o / 2) % 4)
leads_fraction b at.MV_SUBPEL_NONE c d o h = omega arith
leads_fraction b at.MV_SUBPEL_LOW_PRECISION zero d o h = (omega arith, refl)
leads_fraction b at.MV_SUBPEL_HIGH_PRECISION zero d o h = (omega arith, refl)
leads_fraction b at.MV_SUBPEL_LOW_PRECISION (suc c) d o h = (omega arith, refl)
leads_fraction b at.MV_SUBPEL_HIGH_PRECISION (suc c) d o h = (omega arith, refl)

pub leads_high : (b : ℕ) (p : MvSubpelPrecision) (c o : ℕ) → Fits p o → Leads (high_tree b p c) (high_path p (o % 2)) (o % 2)
leads_high b at.MV_SUBPEL_NONE c o h = omega arith
leads_high b at.MV_SUBPEL_LOW_PRECISION c o h = omega arith
leads_high b at.MV_SUBPEL_HIGH_PRECISION zero o h = (omega arith, refl)
leads_high b at.MV_SUBPEL_HIGH_PRECISION (suc c) o h = (omega arith, refl)

leads_component : (b : ℕ) (p : MvSubpelPrecision) (sign c o : ℕ) → sign < 2 → c < 11 → o < class_width c → Fits p o
    → Leads (component_tree b p) (sign ∷ c ∷ (integer_path c (o / 8) ++ (fraction_path p ((o / 2) % 4) ++ high_path p (o % 2)))) (signed sign (class_base c + o))
leads_component b p sign c o hs hc ho fits =
    let d : ℕ = o / 8 in
    let f : ℕ = (o / 2) % 4 in (
      hs,
      (
        hc,
        leads_then (integer_tree b c) (λ d. and_then (fraction_tree b p c d) (λ f. read_by (λ h. signed sign (class_base c + (8 * d + 2 * f + h))) (high_tree b p c)))
            (integer_path c d) (fraction_path p f ++ high_path p (o % 2)) d (signed sign (class_base c + o)) (leads_integer b c o ho)
            (leads_then (fraction_tree b p c d) (λ f. read_by (λ h. signed sign (class_base c + (8 * d + 2 * f + h))) (high_tree b p c))
            (fraction_path p f) (high_path p (o % 2)) f (signed sign (class_base c + o)) (leads_fraction b p c d o fits)
            (leads_by (high_tree b p c) (λ h. signed sign (class_base c + (8 * d + 2 * f + h))) (high_path p (o % 2)) (o % 2) (signed sign (class_base c + o)) (leads_high b p c o fits)
            (ap (λ x. signed sign (class_base c + x)) parts))),
      ),
    )
  where
    parts : 8 * (o / 8) + 2 * ((o / 2) % 4) + o % 2 ≡ o
    parts = omega arith

-- the class found is the magnitude's
abbrev InClass : ℕ → ℕ → ℕ → Type 0
InClass m z k = (class_base k ≤ z) × (z < 8 * 2 ^ suc k) × (k ≤ m)

class_in : (m n c z : ℕ) → m ≡ c + n → class_base c ≤ z → z < 8 * 2 ^ suc m → InClass m z (class_from n c z)
class_in m zero c z e h k = (h, subst (λ x. z < 8 * 2 ^ suc x) same k, omega arith)
  where
    same : m ≡ c
    same = omega arith
class_in m (suc n) c z e h k = go (ltb z (8 * 2 ^ suc c)) (ltb→lt z (8 * 2 ^ suc c)) (nltb→le z (8 * 2 ^ suc c)) (λ l. class_in m n (suc c) z (omega arith) l k)
  where
    go : (b : Bool) → (T b → z < 8 * 2 ^ suc c) → (T (not b) → 8 * 2 ^ suc c ≤ z) → (8 * 2 ^ suc c ≤ z → InClass m z (class_from n (suc c) z)) → InClass m z (cond b c (class_from n (suc c) z))
    go true l g r = (h, l tt, omega arith)
    go false l g r = r (g tt)

offset_within : (k z : ℕ) → class_base k ≤ z → z < 8 * 2 ^ suc k → z - class_base k < class_width k
offset_within zero z h l = let e : z < 16 = l in omega arith
offset_within (suc k) z h l = let e : 2 ^ suc (suc k) ≡ 2 ^ suc k * 2 = pow-suc 2 (suc k) in omega arith

base_fits : (p : MvSubpelPrecision) (k z : ℕ) → class_base k ≤ z → Fits p z → Fits p (z - class_base k)
base_fits at.MV_SUBPEL_NONE zero z h f = omega arith
base_fits at.MV_SUBPEL_NONE (suc k) z h f = omega arith
base_fits at.MV_SUBPEL_LOW_PRECISION zero z h f = omega arith
base_fits at.MV_SUBPEL_LOW_PRECISION (suc k) z h f = omega arith
base_fits at.MV_SUBPEL_HIGH_PRECISION k z h f = tt

class_within : (z : ℕ) → z < 16384 → InClass 10 z (class_of z)
unfolding class_of
class_within z h = class_in 10 10 0 z (omega arith) (omega arith) h

-- the class, and what the offset there keeps
pub record Inside (p : MvSubpelPrecision) (z : ℕ) : Type 0 where
  pub class : class_of z < 11
  pub starts : class_base (class_of z) ≤ z
  pub offset : offset_of z < class_width (class_of z)
  pub fine : Fits p (offset_of z)

pub inside : (p : MvSubpelPrecision) (z : ℕ) → z < 16384 → Fits p z → Inside p z
inside p z hz fits =
    let i : InClass 10 z (class_of z) = class_within z hz in
    record { class = omega (arith, i.2); starts = i.0; offset = offset_within (class_of z) z i.0 i.1; fine = base_fits p (class_of z) z i.0 fits }

pub component_leads : ComponentLeads
component_leads b p sign z hs hz fits =
    let i : Inside p z = inside p z hz fits in
    subst (λ x. Leads (component_tree b p) (component_path p sign z) (signed sign x)) (sums i.starts) (leads_component b p sign (class_of z) (offset_of z) hs i.class i.offset i.fine)
  where
    sums : class_base (class_of z) ≤ z → class_base (class_of z) + offset_of z ≡ z
    sums h = omega arith

-- whole vectors
pub fits_less : (p : MvSubpelPrecision) (z : ℕ) → suc z % step_of p ≡ 0 → Fits p z
fits_less at.MV_SUBPEL_NONE z h = omega arith
fits_less at.MV_SUBPEL_LOW_PRECISION z h = omega arith
fits_less at.MV_SUBPEL_HIGH_PRECISION z h = tt

pub component_leads_if : (b : ℕ) (p : MvSubpelPrecision) (d : ℤ) → magnitude d ≤ 16384 → magnitude d % step_of p ≡ 0 → (c : Bool) → c ≡ present d
    → Leads (component_if c b p) (path_if p d) d
component_leads_if b p (pos zero) h k false e = refl
component_leads_if b p (pos zero) h k true e = absurd (true≢false e)
component_leads_if b p (pos (suc z)) h k true e = component_leads b p 0 z (omega arith) (omega arith) (fits_less p z k)
component_leads_if b p (pos (suc z)) h k false e = absurd (false≢true e)
component_leads_if b p (negsuc z) h k true e = component_leads b p 1 z (omega arith) (omega arith) (fits_less p z k)
component_leads_if b p (negsuc z) h k false e = absurd (false≢true e)

pub joint_row : (row col : ℤ) → has_row (2 * nonzero row + nonzero col) ≡ present row
joint_row (pos zero) (pos zero) = refl
joint_row (pos (suc a)) (pos zero) = refl
joint_row (negsuc a) (pos zero) = refl
joint_row _ _ = refl

pub joint_col : (row col : ℤ) → has_col (2 * nonzero row + nonzero col) ≡ present col
joint_col (pos zero) (pos zero) = refl
joint_col (pos (suc a)) (pos zero) = refl
joint_col (negsuc a) (pos zero) = refl
joint_col _ _ = refl

pub joint_below : (row col : ℤ) → 2 * nonzero row + nonzero col < 4
joint_below row col = let a : nonzero row ≤ 1 = at_most row in let b : nonzero col ≤ 1 = at_most col in omega arith
  where
    at_most : (d : ℤ) → nonzero d ≤ 1
    at_most (pos zero) = omega arith
    at_most (pos (suc n)) = omega arith
    at_most (negsuc n) = omega arith

pub vector_leads : (p : MvSubpelPrecision) (d : ℤ × ℤ) → T (in_range d) → T (fits_precision p d) → Leads (vector_tree p) (vector_path p d) d
vector_leads p d range fine =
    let row : ℤ = d.0 in
    let col : ℤ = d.1 in
    let j : ℕ = 2 * nonzero row + nonzero col in (
      joint_below d.0 d.1,
      leads_then (component_if (has_row j) 318 p) (λ r. read_by (λ c. (r, c)) (component_if (has_col j) 374 p)) (path_if p row) (path_if p col) row d
          (component_leads_if 318 p row (leb→le (magnitude row) 16384 (and_first _ _ range)) (eqb→eq _ _ (and_first _ _ fine)) (has_row j) (joint_row row col))
          (leads_by (component_if (has_col j) 374 p) (λ c. (row, c)) (path_if p col) col d
          (component_leads_if 374 p col (leb→le (magnitude col) 16384 (and_second (leb (magnitude row) 16384) _ range)) (eqb→eq _ _ (and_second (eqb (magnitude row % step_of p) 0) _ fine)) (has_col j) (joint_col row col)) refl),
    )
