-- Block sizes: their sides in pixels and in units of 4 pixels, the context bytes that each leaves, and how sizes compare.
use Rattle.std.specs.Prelude.{ℕ, ◌-◌, ◌/◌, ◌^◌, Bool, ◌&&◌, List, [], ◌∷◌, ◌==◌, nat_le}
use Rattle.av1.specs.declared.size.BlockSize.{BlockSize}
use Rattle.av1.specs.declared.size.BlockSize.TheVariants.{BLOCK_4X4, BLOCK_4X8, BLOCK_8X4, BLOCK_8X8, BLOCK_8X16, BLOCK_16X8, BLOCK_16X16, BLOCK_16X32, BLOCK_32X16, BLOCK_32X32, BLOCK_32X64, BLOCK_64X32, BLOCK_64X64, BLOCK_64X128, BLOCK_128X64, BLOCK_128X128, BLOCK_4X16, BLOCK_16X4, BLOCK_8X32, BLOCK_32X8, BLOCK_16X64, BLOCK_64X16}

-- the sides in pixels are powers of two; these are their exponents
abbrev pub width_log2 : BlockSize → ℕ
width_log2 BLOCK_4X4 = 2
width_log2 BLOCK_4X8 = 2
width_log2 BLOCK_8X4 = 3
width_log2 BLOCK_8X8 = 3
width_log2 BLOCK_8X16 = 3
width_log2 BLOCK_16X8 = 4
width_log2 BLOCK_16X16 = 4
width_log2 BLOCK_16X32 = 4
width_log2 BLOCK_32X16 = 5
width_log2 BLOCK_32X32 = 5
width_log2 BLOCK_32X64 = 5
width_log2 BLOCK_64X32 = 6
width_log2 BLOCK_64X64 = 6
width_log2 BLOCK_64X128 = 6
width_log2 BLOCK_128X64 = 7
width_log2 BLOCK_128X128 = 7
width_log2 BLOCK_4X16 = 2
width_log2 BLOCK_16X4 = 4
width_log2 BLOCK_8X32 = 3
width_log2 BLOCK_32X8 = 5
width_log2 BLOCK_16X64 = 4
width_log2 BLOCK_64X16 = 6

abbrev pub height_log2 : BlockSize → ℕ
height_log2 BLOCK_4X4 = 2
height_log2 BLOCK_4X8 = 3
height_log2 BLOCK_8X4 = 2
height_log2 BLOCK_8X8 = 3
height_log2 BLOCK_8X16 = 4
height_log2 BLOCK_16X8 = 3
height_log2 BLOCK_16X16 = 4
height_log2 BLOCK_16X32 = 5
height_log2 BLOCK_32X16 = 4
height_log2 BLOCK_32X32 = 5
height_log2 BLOCK_32X64 = 6
height_log2 BLOCK_64X32 = 5
height_log2 BLOCK_64X64 = 6
height_log2 BLOCK_64X128 = 7
height_log2 BLOCK_128X64 = 6
height_log2 BLOCK_128X128 = 7
height_log2 BLOCK_4X16 = 4
height_log2 BLOCK_16X4 = 2
height_log2 BLOCK_8X32 = 5
height_log2 BLOCK_32X8 = 3
height_log2 BLOCK_16X64 = 6
height_log2 BLOCK_64X16 = 4

-- the sides in pixels
abbrev pub width : BlockSize → ℕ
width z = 2 ^ width_log2 z

abbrev pub height : BlockSize → ℕ
height z = 2 ^ height_log2 z

-- the sides in units
abbrev pub width_mi : BlockSize → ℕ
width_mi z = width z / 4

abbrev pub height_mi : BlockSize → ℕ
height_mi z = height z / 4

abbrev pub square : BlockSize → Bool
square z = width z == height z

-- neither wider nor higher
abbrev pub fits_in : BlockSize → BlockSize → Bool
fits_in a b = nat_le (width a) (width b) && nat_le (height a) (height b)

abbrev pub no_side_above : ℕ → BlockSize → Bool
no_side_above side z = nat_le (width z) side && nat_le (height z) side

-- a square that a partition may split: 8 pixels at least, and at most the given side
abbrev pub splits : ℕ → BlockSize → Bool
splits largest z = square z && (nat_le 8 (width z) && nat_le (width z) largest)

-- the j of a square of side 8 × 2^j
abbrev pub level : BlockSize → ℕ
level z = width_log2 z - 3

-- the bytes that a block leaves in the contexts: above by its width, left by its height
abbrev pub above_byte : BlockSize → ℕ
above_byte z = 32 - width_mi z

abbrev pub left_byte : BlockSize → ℕ
left_byte z = 32 - height_mi z

abbrev pub context_bytes : BlockSize → List ℕ
context_bytes z = above_byte z ∷ left_byte z ∷ []

-- in the order of the standard's numbers
abbrev pub all_sizes : List BlockSize
all_sizes = BLOCK_4X4 ∷ BLOCK_4X8 ∷ BLOCK_8X4 ∷ BLOCK_8X8 ∷ BLOCK_8X16 ∷ BLOCK_16X8 ∷ BLOCK_16X16 ∷ BLOCK_16X32 ∷ BLOCK_32X16 ∷ BLOCK_32X32 ∷ BLOCK_32X64 ∷ BLOCK_64X32 ∷ BLOCK_64X64 ∷ BLOCK_64X128 ∷ BLOCK_128X64 ∷ BLOCK_128X128 ∷ BLOCK_4X16 ∷ BLOCK_16X4 ∷ BLOCK_8X32 ∷ BLOCK_32X8 ∷ BLOCK_16X64 ∷ BLOCK_64X16 ∷ []
