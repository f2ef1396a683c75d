-- How many entries and windows the symbols of a path make.
use Rattle.std.proofs.Common.{◌≡◌, ℕ, zero, suc, ◌+◌, ◌*◌, ◌/◌, ◌%◌, Bool, true, false, List, [], ◌∷◌, ◌++◌, length, refl, ap, ◌∙◌, ap₂, arith}
use Rattle.std.proofs.lemmas.List.{length-append}
use Rattle.cdf.specs.Words.{Words}
use Rattle.model.specs.Coders.{after, edge, whole}
use Rattle.model.specs.Decisions.{add_if, is_large, is_small, large_of, small_of, window_at, windows_of}
use Rattle.model.specs.Tree.{Leads, Syntax, and_then, coded, done, read_by, written}
use Rattle.model.specs.Vector.{bits_of, bits_tree}

length_add : {A : Type 0} (b : Bool) (x : A) (l m : List A) (n : ℕ) → length l ≡ length m + n → length (add_if b x l) ≡ length (add_if b x m) + n
length_add true x l m n h = omega arith
length_add false x l m n h = h

-- the windows of one syntax and then of another
windows_then : {A B : Type 0} (n : ℕ) (taken : ℕ → Bool) (t : Syntax A) (g : A → Syntax B) (p q : List ℕ) (a : A) (w : Words) → Leads t p a
    → length (windows_of n taken w (and_then t g) (p ++ q)) ≡ length (windows_of n taken w t p) + length (windows_of n taken (written w t p).words (g a) q)
windows_then n taken (done c) g [] q a w h =
    let e : length (windows_of n taken w (g c) q) ≡ length (windows_of n taken w (g a) q) = ap (λ x. length (windows_of n taken w (g x) q)) h in
    omega arith
windows_then n taken (coded (whole t) f) g (s ∷ p) q a w h =
    let v : Words = after w (whole t) s in
    length_add (taken t.count) (window_at n w t.first) (windows_of n taken v (and_then (f s) g) (p ++ q)) (windows_of n taken v (f s) p)
    (length (windows_of n taken (written v (f s) p).words (g a) q)) (windows_then n taken (f s) g p q a v h.1)
windows_then n taken (coded (edge t ss) f) g (s ∷ p) q a w h = windows_then n taken (f s) g p q a w h.1
windows_then n taken _ g p q a w h = absurd h

windows_by : {A B : Type 0} (n : ℕ) (taken : ℕ → Bool) (t : Syntax A) (g : A → B) (p : List ℕ) (w : Words) → windows_of n taken w (read_by g t) p ≡ windows_of n taken w t p
windows_by n taken (coded (whole t) f) g (s ∷ p) w = ap (add_if (taken t.count) (window_at n w t.first)) (windows_by n taken (f s) g p (after w (whole t) s))
windows_by n taken (coded (edge t ss) f) g (s ∷ p) w = windows_by n taken (f s) g p w
windows_by n taken _ g p w = refl

-- whatever the words, the symbols of a path adapt so many tables of up to 4 symbols and so many larger ones, and no edge is among them
pub record Adapts {D : Type 0} (t : Syntax D) (p : List ℕ) (few many : ℕ) : Type 0 where
  pub small : (w : Words) → length (small_of w t p) ≡ few
  pub large : (w : Words) → length (large_of w t p) ≡ many
  pub entries : length p ≡ few + many

pub adapts_then : {A B : Type 0} (t : Syntax A) (g : A → Syntax B) (p q : List ℕ) (a : A) (few many few' many' : ℕ) → Leads t p a → Adapts t p few many → Adapts (g a) q few' many'
    → Adapts (and_then t g) (p ++ q) (few + few') (many + many')
adapts_then t g p q a few many few' many' h first next =
    record {
      small = λ w. windows_then 4 is_small t g p q a w h ∙ ap₂ (λ m n. m + n) (first.small w) (next.small (written w t p).words);
      large = λ w. windows_then 16 is_large t g p q a w h ∙ ap₂ (λ m n. m + n) (first.large w) (next.large (written w t p).words);
      entries = length-append p q ∙ (omega (arith, first.entries, next.entries));
    }

pub adapts_by : {A B : Type 0} (t : Syntax A) (g : A → B) (p : List ℕ) (few many : ℕ) → Adapts t p few many → Adapts (read_by g t) p few many
adapts_by t g p few many h =
    record { small = λ w. ap length (windows_by 4 is_small t g p w) ∙ h.small w; large = λ w. ap length (windows_by 16 is_large t g p w) ∙ h.large w; entries = h.entries }

pub adapts_bits : (n f v : ℕ) → Adapts (bits_tree f n) (bits_of n v) n 0
adapts_bits zero f v = record { small = λ w. refl; large = λ w. refl; entries = refl }
adapts_bits (suc n) f v =
    let rest : Adapts (read_by (λ r. v % 2 + 2 * r) (bits_tree (f + 2) n)) (bits_of n (v / 2)) n 0 = adapts_by (bits_tree (f + 2) n) (λ r. v % 2 + 2 * r) (bits_of n (v / 2)) n 0 (adapts_bits n (f + 2) (v / 2)) in
    record { small = λ w. ap suc (rest.small _); large = λ w. rest.large _; entries = omega (arith, rest.entries) }
