-- How many symbols the parts of a vector have, and the tables that are chosen by the class.
use Rattle.std.specs.Prelude.{◌≡◌, ℕ, zero, suc, ◌+◌, ◌*◌, ◌/◌, ◌%◌, ◌^◌, true, ◌||◌, List, ◌++◌, ℤ, ◌==◌}
use Rattle.av1.specs.declared.mv.MvSubpelPrecision.{MvSubpelPrecision}
use Rattle.av1.specs.declared.mv.MvSubpelPrecision.TheVariants as at
use Rattle.av1.specs.Vectors.{class_base, class_of, signed}
use Rattle.cdf.specs.Layout.{row_base, col_base}
use Rattle.model.specs.Tree.{Syntax, and_then, read_by}
use Rattle.model.specs.Vector.{fraction_path, fraction_tree, high_path, high_tree, integer_path, integer_tree}

-- the words of a component's tables begin at one of two places: those of the row, or those of the column
abbrev pub Component : ℕ → Type 0
Component b = (b == row_base || b == col_base) ≡ true

abbrev pub integer_count : ℕ → ℕ
integer_count zero = 1
integer_count (suc c) = suc c

abbrev pub fraction_count : MvSubpelPrecision → ℕ
fraction_count at.MV_SUBPEL_NONE = 0
fraction_count at.MV_SUBPEL_LOW_PRECISION = 1
fraction_count at.MV_SUBPEL_HIGH_PRECISION = 1

abbrev pub high_count : MvSubpelPrecision → ℕ
high_count at.MV_SUBPEL_NONE = 0
high_count at.MV_SUBPEL_LOW_PRECISION = 0
high_count at.MV_SUBPEL_HIGH_PRECISION = 1

abbrev pub offset_count : MvSubpelPrecision → ℕ → ℕ
offset_count p c = integer_count c + (fraction_count p + high_count p)

-- the symbols of a component beside its class, by its magnitude
abbrev pub component_count : MvSubpelPrecision → ℕ → ℕ
component_count p zero = 0
component_count p (suc z) = 1 + offset_count p (class_of z)

-- what follows the sign and the class of a component
abbrev pub offset_tree : ℕ → MvSubpelPrecision → ℕ → ℕ → Syntax ℤ
offset_tree b p sign c =
    and_then (integer_tree b c) (λ d.
    and_then (fraction_tree b p c d) (λ f.
    read_by (λ h. signed sign (class_base c + (8 * d + 2 * f + h))) (high_tree b p c)))

abbrev pub offset_path : MvSubpelPrecision → ℕ → ℕ → List ℕ
offset_path p c o = integer_path c (o / 8) ++ (fraction_path p ((o / 2) % 4) ++ high_path p (o % 2))

-- where the table of the fraction and that of the high bit begin
abbrev pub fraction_first : ℕ → ℕ → ℕ → ℕ
fraction_first b zero d = b + 28 + 4 * d
fraction_first b (suc c) d = b + 36

abbrev pub high_first : ℕ → ℕ → ℕ
high_first b zero = b + 2
high_first b (suc c) = b + 4

-- the integer part lies below this
abbrev pub integer_width : ℕ → ℕ
integer_width zero = 2
integer_width (suc c) = 2 ^ suc c
