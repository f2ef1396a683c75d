-- A spot put back restores a cell or a context byte, and nothing else.
use Rattle.std.specs.Prelude.{◌≡◌, ℕ, ◌<◌, cond, List, length, nat_lt, slice_set, refl}
use Rattle.std.proofs.Common.{◌∙◌}
use Rattle.std.proofs.lemmas.Bool.{cond_both, cond-false}
use Rattle.std.proofs.lemmas.List.{length-set, set-set}
use Rattle.av1.specs.declared.tile.Cell.{Cell}
use Rattle.journal.specs.declared.Spot.{Spot}
use Rattle.journal.specs.declared.Spot.TheVariants as spot
use Rattle.journal.specs.declared.spots.Places.{Places}
use Rattle.journal.specs.Walks.{Restoring}

-- what spots lie in: the context bytes above and to the left, and the cells of the tile
pub record Area : Type 0 where
  pub above : List ℕ
  pub left : List ℕ
  pub cells : List Cell

abbrev pub area : List ℕ → List ℕ → List Cell → Area
area above left cells = record { above = above; left = left; cells = cells }

-- a value put at place i of a list of so many, or else passed over
abbrev pub put_below : {A : Type 0} → ℕ → ℕ → A → List A → List A
put_below size i a l = cond (nat_lt i size) (slice_set l i a) l

abbrev pub put_area : Spot → Area → Area
put_area (spot.Cell i c) a = area a.above a.left (put_below (length a.cells) i c a.cells)
put_area (spot.Above i b) a = area (put_below 512 i b a.above) a.left a.cells
put_area (spot.Left i b) a = area a.above (put_below 8 i b a.left) a.cells

-- the places that are lent, and these with another area in them
abbrev pub area_of : Places → Area
area_of p = area p.above.now p.left.now p.cells.now

abbrev pub with_area : Places → Area → Places
with_area p a =
    record {
      above = record { ref_ptr = p.above.ref_ptr; ghost_name = p.above.ghost_name; now = a.above };
      left = record { ref_ptr = p.left.ref_ptr; ghost_name = p.left.ghost_name; now = a.left };
      cells = record { ref_ptr = p.cells.ref_ptr; ghost_name = p.cells.ghost_name; now = a.cells };
    }

abbrev pub put_places : Spot → Places → Places
put_places r p = with_area p (put_area r (area_of p))

-- the spot lies inside, and the record holds what stands there
abbrev pub HoldsSpot : Spot → Places → Type 0
HoldsSpot (spot.Cell i c) p = (i < length p.cells.now) × (slice_set p.cells.now i c ≡ p.cells.now)
HoldsSpot (spot.Above i b) p = (i < 512) × (slice_set p.above.now i b ≡ p.above.now)
HoldsSpot (spot.Left i b) p = (i < 8) × (slice_set p.left.now i b ≡ p.left.now)

-- the two differ at the spot at most: with one value there they are the same
abbrev pub ApartSpot : Spot → Places → Places → Type 0
ApartSpot r p q = put_places r q ≡ put_places r p

below_same : {A : Type 0} (size i : ℕ) (a : A) (l : List A) → slice_set l i a ≡ l → put_below size i a l ≡ l
below_same size i a l e = cond_both (nat_lt i size) (slice_set l i a) l (λ m. m ≡ l) (λ t. e) (λ t. refl)

below_twice : {A : Type 0} (size i : ℕ) (a : A) (l : List A) → put_below size i a (put_below size i a l) ≡ put_below size i a l
below_twice size i a l =
    cond_both (nat_lt i size) (slice_set l i a) l (λ m. put_below size i a m ≡ m) (λ t. below_same size i a (slice_set l i a) (set-set l i a a))
    (cond-false (nat_lt i size) (slice_set l i a) l)

pub length_below : {A : Type 0} (size i : ℕ) (a : A) (l : List A) → length (put_below size i a l) ≡ length l
length_below size i a l = cond_both (nat_lt i size) (slice_set l i a) l (λ m. length m ≡ length l) (λ t. length-set l i a) (λ t. refl)

held_same : (r : Spot) (p : Places) → HoldsSpot r p → put_places r p ≡ p
held_same (spot.Cell i c) p h = rw (below_same (length p.cells.now) i c p.cells.now h.1)
held_same (spot.Above i b) p h = rw (below_same 512 i b p.above.now h.1)
held_same (spot.Left i b) p h = rw (below_same 8 i b p.left.now h.1)

put_twice : (r : Spot) (p : Places) → put_places r (put_places r p) ≡ put_places r p
put_twice (spot.Cell i c) p = rw (length_below (length p.cells.now) i c p.cells.now, below_twice (length p.cells.now) i c p.cells.now)
put_twice (spot.Above i b) p = rw (below_twice 512 i b p.above.now)
put_twice (spot.Left i b) p = rw (below_twice 8 i b p.left.now)

pub spot_laws : Restoring put_places HoldsSpot ApartSpot
spot_laws = record { restores = λ r p q h a. a ∙ held_same r p h; only = put_twice }
