-- Vectors as trees of symbols: the joint, then the row and the column where they are not zero.
use Rattle.std.specs.Prelude.{◌≡◌, ℕ, zero, suc, ◌+◌, ◌*◌, ◌/◌, ◌%◌, ◌^◌, ◌<◌, Bool, true, false, ◌&&◌, ◌||◌, List, [], ◌∷◌, ◌++◌, ℤ, pos, negsuc, ◌==◌, nat_le}
use Rattle.av1.specs.declared.mv.MvSubpelPrecision.{MvSubpelPrecision}
use Rattle.av1.specs.declared.mv.MvSubpelPrecision.TheVariants as at
use Rattle.av1.specs.Vectors.{magnitude, nonzero, signed, class_base, class_of, offset_of}
use Rattle.model.specs.Tree.{Syntax, done, and_then, read_by, one, Leads}

-- bits, lowest first, each by a table of its own
abbrev pub bits_tree : ℕ → ℕ → Syntax ℕ
bits_tree f zero = done 0
bits_tree f (suc n) = and_then (one f 2) (λ b. read_by (λ r. b + 2 * r) (bits_tree (f + 2) n))

abbrev pub bits_of : ℕ → ℕ → List ℕ
bits_of zero v = []
bits_of (suc n) v = v % 2 ∷ bits_of n (v / 2)

abbrev pub integer_tree : ℕ → ℕ → Syntax ℕ
integer_tree b zero = one (b + 6) 2
integer_tree b (suc c) = bits_tree (b + 8) (suc c)

abbrev pub integer_path : ℕ → ℕ → List ℕ
integer_path zero d = d ∷ []
integer_path (suc c) d = bits_of (suc c) d

abbrev pub fraction_tree : ℕ → MvSubpelPrecision → ℕ → ℕ → Syntax ℕ
fraction_tree b at.MV_SUBPEL_NONE c d = done 3
fraction_tree b at.MV_SUBPEL_LOW_PRECISION zero d = one (b + 28 + 4 * d) 4
fraction_tree b at.MV_SUBPEL_HIGH_PRECISION zero d = one (b + 28 + 4 * d) 4
fraction_tree b at.MV_SUBPEL_LOW_PRECISION (suc c) d = one (b + 36) 4
fraction_tree b at.MV_SUBPEL_HIGH_PRECISION (suc c) d = one (b + 36) 4

abbrev pub fraction_path : MvSubpelPrecision → ℕ → List ℕ
fraction_path at.MV_SUBPEL_NONE f = []
fraction_path at.MV_SUBPEL_LOW_PRECISION f = f ∷ []
fraction_path at.MV_SUBPEL_HIGH_PRECISION f = f ∷ []

abbrev pub high_tree : ℕ → MvSubpelPrecision → ℕ → Syntax ℕ
high_tree b at.MV_SUBPEL_NONE c = done 1
high_tree b at.MV_SUBPEL_LOW_PRECISION c = done 1
high_tree b at.MV_SUBPEL_HIGH_PRECISION zero = one (b + 2) 2
high_tree b at.MV_SUBPEL_HIGH_PRECISION (suc c) = one (b + 4) 2

abbrev pub high_path : MvSubpelPrecision → ℕ → List ℕ
high_path at.MV_SUBPEL_NONE h = []
high_path at.MV_SUBPEL_LOW_PRECISION h = []
high_path at.MV_SUBPEL_HIGH_PRECISION h = h ∷ []

abbrev pub component_tree : ℕ → MvSubpelPrecision → Syntax ℤ
component_tree b p =
    and_then (one b 2) (λ sign.
    and_then (one (b + 40) 11) (λ c.
    and_then (integer_tree b c) (λ d.
    and_then (fraction_tree b p c d) (λ f.
    read_by (λ h. signed sign (class_base c + (8 * d + 2 * f + h))) (high_tree b p c)))))

abbrev pub component_path : MvSubpelPrecision → ℕ → ℕ → List ℕ
component_path p sign z =
    let o : ℕ = offset_of z in
    sign ∷ class_of z ∷ (integer_path (class_of z) (o / 8) ++ (fraction_path p ((o / 2) % 4) ++ high_path p (o % 2)))

-- how far the offsets of a class go
abbrev pub class_width : ℕ → ℕ
class_width zero = 16
class_width (suc c) = 8 * 2 ^ suc c

-- what a precision takes, of a magnitude less one
abbrev pub Fits : MvSubpelPrecision → ℕ → Type 0
Fits at.MV_SUBPEL_NONE z = z % 8 ≡ 7
Fits at.MV_SUBPEL_LOW_PRECISION z = z % 2 ≡ 1
Fits at.MV_SUBPEL_HIGH_PRECISION z = Unit {0}

abbrev pub ComponentLeads : Type 0
ComponentLeads = (b : ℕ) (p : MvSubpelPrecision) (sign z : ℕ) → sign < 2 → z < 16384 → Fits p z → Leads (component_tree b p) (component_path p sign z) (signed sign z)

-- the components that a joint names
abbrev pub has_row : ℕ → Bool
has_row j = j == 2 || j == 3

abbrev pub has_col : ℕ → Bool
has_col j = j == 1 || j == 3

abbrev pub present : ℤ → Bool
present (pos zero) = false
present (pos (suc z)) = true
present (negsuc z) = true

abbrev pub component_if : Bool → ℕ → MvSubpelPrecision → Syntax ℤ
component_if true b p = component_tree b p
component_if false b p = done (pos 0)

abbrev pub vector_tree : MvSubpelPrecision → Syntax (ℤ × ℤ)
vector_tree p =
    and_then (one 302 4) (λ j.
    and_then (component_if (has_row j) 318 p) (λ row.
    read_by (λ col. (row, col)) (component_if (has_col j) 374 p)))

abbrev pub path_if : MvSubpelPrecision → ℤ → List ℕ
path_if p (pos zero) = []
path_if p (pos (suc z)) = component_path p 0 z
path_if p (negsuc z) = component_path p 1 z

abbrev pub vector_path : MvSubpelPrecision → ℤ × ℤ → List ℕ
vector_path p d = (2 * nonzero d.0 + nonzero d.1) ∷ (path_if p d.0 ++ path_if p d.1)

abbrev pub in_range : ℤ × ℤ → Bool
in_range d = nat_le (magnitude d.0) 16384 && nat_le (magnitude d.1) 16384

-- LOW takes even components, NONE multiples of 8
abbrev pub step_of : MvSubpelPrecision → ℕ
step_of at.MV_SUBPEL_NONE = 8
step_of at.MV_SUBPEL_LOW_PRECISION = 2
step_of at.MV_SUBPEL_HIGH_PRECISION = 1

abbrev pub fits_precision : MvSubpelPrecision → ℤ × ℤ → Bool
fits_precision p d = magnitude d.0 % step_of p == 0 && magnitude d.1 % step_of p == 0
