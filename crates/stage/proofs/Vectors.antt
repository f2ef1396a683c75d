-- The parts of a vector's components: their tables, the room that they take, and what was coded of them.
use Rattle.std.proofs.Common.{◌≡◌, ℕ, zero, suc, ◌+◌, ◌-◌, ◌*◌, ◌/◌, ◌%◌, ◌<◌, ◌≤◌, Bool, true, false, cond, T, leb, [], ◌∷◌, ◌++◌, ℤ, pos, negsuc, Some, None, Option, sym, refl, ap, ◌∙◌, subst, subst₂, inl, inr, ◌⊎◌, ◌||◌, eqb, arith, leb→le, eqb→eq}
use Rattle.av1.specs.declared.mv.MvSubpelPrecision.{MvSubpelPrecision}
use Rattle.av1.specs.Vectors.{class_base, class_of, magnitude, nonzero, offset_of, sign_bit, signed}
use Rattle.cdf.specs.Layout.{row_base, col_base}
use Rattle.model.specs.Tree.{Syntax, and_then, one, read_by}
use Rattle.model.specs.Vector.{Fits, class_width, component_if, component_path, component_tree, fraction_path, fraction_tree, high_path, high_tree, integer_path, integer_tree, path_if, present, step_of}
use Rattle.model.proofs.Vectors.{Inside, fits_less, inside, leads_fraction, leads_integer}
use Rattle.model.proofs.TreeTables.{At, Base, base_col, base_row, moved_in_layout}
use Rattle.stage.specs.Coding.{Coded, Moment, RoomFor}
use Rattle.stage.specs.Vectors.{Component, component_count, fraction_count, fraction_first, high_count, high_first, integer_count, offset_count, offset_path, offset_tree}
use Rattle.stage.proofs.Coding.{coded_by, coded_then, recount}

-- the tables of a component
one_of : (b : ℕ) → Component b → (b ≡ row_base) ⊎ (b ≡ col_base)
one_of b h = go (eqb b row_base) (eqb b col_base) (eqb→eq b row_base) (eqb→eq b col_base) h
  where
    go : (r c : Bool) → (T r → b ≡ row_base) → (T c → b ≡ col_base) → (r || c) ≡ true → (b ≡ row_base) ⊎ (b ≡ col_base)
    go true c f g e = inl (f tt)
    go false true f g e = inr (g tt)
    go false false f g e = cc

base_of : (b : ℕ) → Component b → Base b
base_of b h = go (one_of b h)
  where
    go : (b ≡ row_base) ⊎ (b ≡ col_base) → Base b
    go (inl e) = subst Base (sym e) base_row
    go (inr e) = subst Base (sym e) base_col

pub component_inside : (b : ℕ) → Component b → b ≤ 374
component_inside b h = go (one_of b h)
  where
    go : (b ≡ row_base) ⊎ (b ≡ col_base) → b ≤ 374
    go (inl e) = omega arith
    go (inr e) = omega arith

pub sign_in_layout : (b : ℕ) → Component b → At b 2
sign_in_layout b h = moved_in_layout (b + 2 * 0) b 2 (omega arith) ((base_of b h).two 0 (omega arith))

pub classes_in_layout : (b : ℕ) → Component b → At (b + 40) 11
classes_in_layout b h = (base_of b h).classes

pub lowest_in_layout : (b : ℕ) → Component b → At (b + 6) 2
lowest_in_layout b h = moved_in_layout (b + 2 * 3) (b + 6) 2 (omega arith) ((base_of b h).two 3 (omega arith))

pub bits_in_layout : (b c : ℕ) → Component b → c < 11 → (k : ℕ) → k < c → At (b + 8 + 2 * k) 2
bits_in_layout b c h most k l = moved_in_layout (b + 2 * (4 + k)) (b + 8 + 2 * k) 2 (omega arith) ((base_of b h).two (4 + k) (omega arith))

pub fraction_in_layout : (b c d : ℕ) → Component b → (c ≡ 0 → d < 2) → At (fraction_first b c d) 4
fraction_in_layout b zero d h low = let l : d < 2 = low refl in (base_of b h).four d (omega arith)
fraction_in_layout b (suc c) d h low = moved_in_layout (b + 28 + 4 * 2) (b + 36) 4 (omega arith) ((base_of b h).four 2 (omega arith))

pub high_in_layout : (b c : ℕ) → Component b → At (high_first b c) 2
high_in_layout b zero h = moved_in_layout (b + 2 * 1) (b + 2) 2 (omega arith) ((base_of b h).two 1 (omega arith))
high_in_layout b (suc c) h = moved_in_layout (b + 2 * 2) (b + 4) 2 (omega arith) ((base_of b h).two 2 (omega arith))

-- the room of the integer part is that of its bits
pub bits_room : (c : ℕ) (m : Moment) → (c ≡ 0 → ⊥) → RoomFor (integer_count c) 0 m → RoomFor c 0 m
bits_room zero m e h = absurd (e refl)
bits_room (suc c) m e h = h

-- an offset, part by part
module _ (b : ℕ) (p : MvSubpelPrecision) (sign c o : ℕ) (inside : o < class_width c) (fine : Fits p o) where
  abbrev last_tree : ℕ → ℕ → Syntax ℤ
  last_tree d f = read_by (λ h. signed sign (class_base c + (8 * d + 2 * f + h))) (high_tree b p c)

  pub offset_coded : (m n k l : Moment)
      → Coded (integer_tree b c) (integer_path c (o / 8)) (integer_count c) 0 m n
      → Coded (fraction_tree b p c (o / 8)) (fraction_path p ((o / 2) % 4)) (fraction_count p) 0 n k
      → Coded (high_tree b p c) (high_path p (o % 2)) (high_count p) 0 k l
      → Coded (offset_tree b p sign c) (offset_path p c o) (offset_count p c) 0 m l
  offset_coded m n k l whole part last =
      coded_then (integer_tree b c) (λ d. and_then (fraction_tree b p c d) (last_tree d)) (integer_path c (o / 8)) (fraction_path p ((o / 2) % 4) ++ high_path p (o % 2)) (o / 8)
      (integer_count c) 0 (fraction_count p + high_count p) 0 m n l (leads_integer b c o inside) whole
      (coded_then (fraction_tree b p c (o / 8)) (last_tree (o / 8)) (fraction_path p ((o / 2) % 4)) (high_path p (o % 2)) ((o / 2) % 4)
      (fraction_count p) 0 (high_count p) 0 n k l (leads_fraction b p c (o / 8) o fine) part
      (coded_by (high_tree b p c) (λ h. signed sign (class_base c + (8 * (o / 8) + 2 * ((o / 2) % 4) + h))) (high_path p (o % 2)) (high_count p) 0 k l last))

-- the magnitude less one, of a component that is not zero
abbrev less : ℤ → ℕ
less (pos zero) = 0
less (pos (suc z)) = z
less (negsuc z) = z

-- what is known of a component once it is split and its class is found
pub record Parts (p : MvSubpelPrecision) (d : ℤ) (s c o : ℕ) : Type 0 where
  pub some : magnitude d ≡ 0 → ⊥
  pub sign : s ≡ sign_bit d
  pub class : c ≡ class_of (less d)
  pub offset : o ≡ offset_of (less d)
  pub most : c < 11
  pub within : o < class_width c
  pub fine : Fits p o

less_one : (d : ℤ) → (magnitude d ≡ 0 → ⊥) → magnitude d ≡ suc (less d)
less_one (pos zero) h = absurd (h refl)
less_one (pos (suc z)) h = refl
less_one (negsuc z) h = refl

abbrev pub SplitAs : ℤ → ℕ → ℕ → Type 0
SplitAs d sign mag = ◌≡◌ {A = Option (ℕ × ℕ)} (Some (sign, mag)) (cond (leb (magnitude d) 16384) (Some (sign_bit d, magnitude d)) None)

pub split_as : (d : ℤ) (sign mag : ℕ) → SplitAs d sign mag → (magnitude d ≤ 16384) × (sign ≡ sign_bit d) × (mag ≡ magnitude d)
split_as d sign mag e = go (leb (magnitude d) 16384) (leb→le (magnitude d) 16384) e
  where
    go : (b : Bool) → (T b → magnitude d ≤ 16384) → ◌≡◌ {A = Option (ℕ × ℕ)} (Some (sign, mag)) (cond b (Some (sign_bit d, magnitude d)) None) → (magnitude d ≤ 16384) × (sign ≡ sign_bit d) × (mag ≡ magnitude d)
    go true h k = let q : ◌≡◌ {A = ℕ × ℕ} (sign, mag) (sign_bit d, magnitude d) = cc in (h tt, ap (λ x. x.0) q, ap (λ x. x.1) q)
    go false h k = absurd (let z : ◌≡◌ {A = ℕ} 0 1 = cc in let y : ⊥ = omega arith in y)

pub parts : (p : MvSubpelPrecision) (d : ℤ) (sign mag c o : ℕ) → magnitude d % step_of p ≡ 0
    → SplitAs d sign mag → (mag ≡ 0 → ⊥) → c ≡ class_of (mag - 1) → o ≡ offset_of (mag - 1) → Parts p d sign c o
parts p d sign mag c o fine split some class offset =
    let s = split_as d sign mag split in
    let more : magnitude d ≡ 0 → ⊥ = λ e. some (s.2 ∙ e) in
    let above : magnitude d ≡ suc (less d) = less_one d more in
    let down : mag - 1 ≡ less d = omega (arith, s.2, above) in
    let i : Inside p (less d) = inside p (less d) (omega (arith, s.0)) (fits_less p (less d) (subst (λ n. n % step_of p ≡ 0) above fine)) in
    let same_class : c ≡ class_of (less d) = class ∙ ap class_of down in
    let same_offset : o ≡ offset_of (less d) = offset ∙ ap offset_of down in
    record {
      some = more;
      sign = s.1;
      class = same_class;
      offset = same_offset;
      most = omega (arith, i.class, same_class);
      within = subst₂ (λ x y. x < class_width y) (sym same_offset) (sym same_class) i.offset;
      fine = subst (Fits p) (sym same_offset) i.fine;
    }

pub component_room : (p : MvSubpelPrecision) (d : ℤ) (sign c o : ℕ) (m : Moment) → Parts p d sign c o → RoomFor (component_count p (magnitude d)) (nonzero d) m
    → RoomFor (1 + offset_count p c) 1 m
component_room p d sign c o m is room = subst (λ x. RoomFor (1 + offset_count p x) 1 m) (sym is.class) (shape d is.some room)
  where
    shape : (d : ℤ) → (magnitude d ≡ 0 → ⊥) → RoomFor (component_count p (magnitude d)) (nonzero d) m → RoomFor (1 + offset_count p (class_of (less d))) 1 m
    shape (pos zero) k r = absurd (k refl)
    shape (pos (suc z)) k r = r
    shape (negsuc z) k r = r

-- a component that is not zero, part by part
pub component_coded : (b : ℕ) (p : MvSubpelPrecision) (d : ℤ) (sign c o : ℕ) (m n k l : Moment) → Parts p d sign c o → sign < 2
    → Coded (one b 2) (sign ∷ []) 1 0 m n
    → Coded (one (b + 40) 11) (c ∷ []) 0 1 n k
    → Coded (offset_tree b p sign c) (offset_path p c o) (offset_count p c) 0 k l
    → Coded (component_if (present d) b p) (path_if p d) (component_count p (magnitude d)) (nonzero d) m l
component_coded b p d sign c o m n k l is below first next rest = shape d is.some (moved sign c o is.sign is.class is.offset whole)
  where
    whole : Coded (component_tree b p) (sign ∷ c ∷ offset_path p c o) (1 + offset_count p c) 1 m l
    whole =
        recount (component_tree b p) (sign ∷ c ∷ offset_path p c o) (1 + (0 + offset_count p c)) (0 + (1 + 0)) (1 + offset_count p c) 1 m l (omega arith) (omega arith)
        (coded_then (one b 2) (λ s. and_then (one (b + 40) 11) (offset_tree b p s)) (sign ∷ []) (c ∷ offset_path p c o) sign 1 0 (0 + offset_count p c) (1 + 0) m n l (below, refl) first
        (coded_then (one (b + 40) 11) (offset_tree b p sign) (c ∷ []) (offset_path p c o) c 0 1 (offset_count p c) 0 n k l (is.most, refl) next rest))

    moved : (s x y : ℕ) → s ≡ sign_bit d → x ≡ class_of (less d) → y ≡ offset_of (less d) → Coded (component_tree b p) (s ∷ x ∷ offset_path p x y) (1 + offset_count p x) 1 m l
        → Coded (component_tree b p) (component_path p (sign_bit d) (less d)) (1 + offset_count p (class_of (less d))) 1 m l
    moved s x y e f g h =
        subst (λ y. Coded (component_tree b p) (sign_bit d ∷ class_of (less d) ∷ offset_path p (class_of (less d)) y) (1 + offset_count p (class_of (less d))) 1 m l) g
        (subst₂ (λ s x. Coded (component_tree b p) (s ∷ x ∷ offset_path p x y) (1 + offset_count p x) 1 m l) e f h)

    shape : (d : ℤ) → (magnitude d ≡ 0 → ⊥) → Coded (component_tree b p) (component_path p (sign_bit d) (less d)) (1 + offset_count p (class_of (less d))) 1 m l
        → Coded (component_if (present d) b p) (path_if p d) (component_count p (magnitude d)) (nonzero d) m l
    shape (pos zero) e h = absurd (e refl)
    shape (pos (suc z)) e h = h
    shape (negsuc z) e h = h
