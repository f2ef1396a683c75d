-- Segments: the prediction and the table's number from up to three neighbours, and how a segment's number is coded near
-- its prediction.
use Rattle.std.specs.Prelude.{◌≡◌, ℕ, ◌+◌, ◌-◌, ◌*◌, ◌/◌, ◌%◌, ◌<◌, Bool, true, false, if◌then◌else◌, ◌&&◌, ◌||◌, List, ℤ, pos, negsuc, Some, None, Option, ◌==◌, nat_le, nat_lt}
use Rattle.std.proofs.Math.IntN.{sub_ℕ}
use Rattle.av1.specs.declared.tile.Cell.{Cell}
use Rattle.av1.specs.Tiles.{above_left_of, above_of, left_of}

-- a neighbour's segment, as the standard has it: -1 for an absent one
abbrev pub prev : Option Cell → ℤ
prev (Some c) = pos c.segment
prev None = negsuc 0

abbrev pub same : ℤ → ℤ → Bool
same (pos a) (pos b) = a == b
same (pos a) (negsuc b) = false
same (negsuc a) (pos b) = false
same (negsuc a) (negsuc b) = a == b

abbrev pub negative : ℤ → Bool
negative (pos a) = false
negative (negsuc a) = true

abbrev pub natural : ℤ → ℕ
natural (pos a) = a
natural (negsuc a) = 0

-- the table's number from above-left, above and left: 0 where above-left is absent; else 2 if all three are the same, 1 if two are
abbrev pub segment_context : ℤ → ℤ → ℤ → ℕ
segment_context ul u l =
    if negative ul then 0
    else (if same ul u && same ul l then 2
    else (if same ul u || (same ul l || same u l) then 1 else 0))

-- the prediction: with above absent left, or 0; with left absent above; else above where it is the same as above-left, and left otherwise
abbrev pub segment_prediction : ℤ → ℤ → ℤ → ℤ
segment_prediction ul u l =
    if negative u then (if negative l then pos 0 else l)
    else (if negative l then u
    else (if same ul u then u else l))

-- either of them, from the neighbours of a unit
abbrev pub near_segments : {A : Type 0} → ℕ → ℕ → List Cell → (ℤ → ℤ → ℤ → A) → ℕ → ℕ → A
near_segments columns rows cells f x y =
    f (prev (above_left_of columns rows cells x y)) (prev (above_of columns rows cells x y)) (prev (left_of columns rows cells x y))

-- the distance from r, even for r and below, odd above
abbrev pub zigzag : ℕ → ℕ → ℕ
zigzag x r = if nat_lt r x then 2 * (x - r) - 1 else 2 * (r - x)

-- the symbol of number x with prediction r, of m segments
abbrev pub interleaved : ℕ → ℕ → ℕ → ℕ
interleaved x r m =
    if r == 0 then x
    else (if nat_le (m - 1) r then m - x - 1
    else (if nat_lt (2 * r) m
    then (if nat_le x (2 * r) then zigzag x r else x)
    else (if nat_lt (2 * r) (x + m) then zigzag x r else m - x - 1)))

abbrev pub zigzag_back : ℕ → ℕ → ℕ
zigzag_back d r = if d % 2 == 1 then r + (d + 1) / 2 else r - d / 2

-- the standard's inverse
abbrev pub deinterleaved : ℕ → ℕ → ℕ → ℕ
deinterleaved d r m =
    if r == 0 then d
    else (if nat_le (m - 1) r then m - d - 1
    else (if nat_lt (2 * r) m
    then (if nat_le d (2 * r) then zigzag_back d r else d)
    else (if nat_le d (2 * (m - r - 1)) then zigzag_back d r else m - (d + 1))))

-- for any number of segments the inverse undoes the interleaving, whose symbols are below that number
abbrev pub SegmentBack : Type 0
SegmentBack = (x r m : ℕ) → x < m → r < m → (deinterleaved (interleaved x r m) r m ≡ x) × (interleaved x r m < m)

-- a symbol in range is read as a number in range
abbrev pub SegmentWithin : Type 0
SegmentWithin = (d r m : ℕ) → d < m → r < m → deinterleaved d r m < m

-- the standard's inverse over the integers, where nothing is cut off at 0
abbrev pub zigzag_back_int : ℕ → ℕ → ℤ
zigzag_back_int d r = if d % 2 == 1 then pos (r + (d + 1) / 2) else sub_ℕ r (d / 2)

abbrev pub deinterleaved_int : ℕ → ℕ → ℕ → ℤ
deinterleaved_int d r m =
    if r == 0 then pos d
    else (if nat_le m (r + 1) then sub_ℕ m (d + 1)
    else (if nat_lt (2 * r) m
    then (if nat_le d (2 * r) then zigzag_back_int d r else pos d)
    else (if nat_le (d + 2 * (r + 1)) (2 * m) then zigzag_back_int d r else sub_ℕ m (d + 1))))

-- one of m segments
abbrev pub segment_of : ℕ → ℤ → Bool
segment_of m (pos n) = nat_lt n m
segment_of m (negsuc n) = false

-- the inverse gives one of the segments exactly for the symbols below their number, and there nothing is cut off
abbrev pub SegmentExact : Type 0
SegmentExact =
    (d r m : ℕ) → r < m
    → (segment_of m (deinterleaved_int d r m) ≡ nat_lt d m) × (d < m → deinterleaved_int d r m ≡ pos (deinterleaved d r m))
