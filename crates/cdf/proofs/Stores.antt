-- Stores of several words one behind the other.
use Rattle.std.proofs.Common.{◌≡◌, ℕ, zero, suc, ◌+◌, ◌-◌, ◌<◌, ◌≤◌, ◌⊎◌, List, [], ◌∷◌, ◌++◌, length, get_or, take, drop, set, sym, refl, ap, ◌∙◌, inl, arith, drop-cons}
use native.Mathlib.Decide.{dec_lt}
use lib.Seq.{sets, sets-eq}
use Rattle.std.proofs.lemmas.List.{set-set, set_comm, set-get_or, drop_all, drop-set-lt, drop-set-add, take-set-le, length-take, take_at, drop_at, append_assoc, get_or-set_other, get_or-set_same, length-set}
use Rattle.cdf.specs.Windows.{window}

-- Stores of windows. Assumes nothing.
set_past : (l : List ℕ) (i a j : ℕ) (vs : List ℕ) → i < j → set (sets l j vs) i a ≡ sets (set l i a) j vs
set_past l i a j [] h = refl
set_past l i a j (v ∷ vs) h =
    set_past (set l j v) i a (suc j) vs (omega arith) ∙ ap (λ z. sets z (suc j) vs) (sym (set_comm l i j a v (omega arith)))

-- a store that covers another
pub sets_over : (vs us l : List ℕ) (f : ℕ) → length vs ≤ length us → sets (sets l f vs) f us ≡ sets l f us
sets_over [] us l f h = refl
sets_over (v ∷ vs) [] l f h = absurd (omega arith)
sets_over (v ∷ vs) (u ∷ us) l f h =
    ap (λ z. sets z (suc f) us) (set_past (set l f v) f u (suc f) vs (omega arith) ∙ ap (λ z. sets z (suc f) vs) (set-set l f v u))
    ∙ sets_over vs us (set l f u) (suc f) (omega arith)

-- a store of what stands there
pub sets_own : (n : ℕ) (l : List ℕ) (f : ℕ) → sets l f (window n l f) ≡ l
sets_own zero l f = refl
sets_own (suc n) l f = go (dec_lt f (length l)) (sets_own n l (suc f))
  where
    go : Dec (f < length l) → sets l (suc f) (window n l (suc f)) ≡ l → sets l f (window (suc n) l f) ≡ l
    go (yes h) ih =
        ap (λ z. sets l f (take (suc n) z)) (drop-cons l f 0 h) ∙ ap (λ z. sets z (suc f) (window n l (suc f))) (set-get_or l f 0) ∙ ih
    go (no h) ih = ap (λ z. sets l f (take (suc n) z)) (drop_all f l (omega arith))

-- two stores apart
pub sets_cross : (us vs l : List ℕ) (f g : ℕ) → f + length us ≤ g → sets (sets l f us) g vs ≡ sets (sets l g vs) f us
sets_cross [] vs l f g h = refl
sets_cross (u ∷ us) vs l f g h =
    sets_cross us vs (set l f u) (suc f) g (omega arith) ∙ ap (λ z. sets z (suc f) us) (sym (set_past l f u g vs (omega arith)))

pub sets_before : (vs w : List ℕ) (f g : ℕ) → f + length vs ≤ g → drop g (sets w f vs) ≡ drop g w
sets_before [] w f g h = refl
sets_before (v ∷ vs) w f g h = sets_before vs (set w f v) (suc f) g (omega arith) ∙ drop-set-lt g w f v (omega arith)

set_behind : (w : List ℕ) (g n i a : ℕ) → g + n ≤ i → take n (drop g (set w i a)) ≡ take n (drop g w)
set_behind w g n i a h =
    let e : i ≡ g + (i - g) = omega arith in
    ap (λ (x : ℕ). take n (drop g (set w x a))) e ∙ ap (take n) (drop-set-add g w (i - g) a) ∙ take-set-le n (drop g w) (i - g) a (omega arith)

pub sets_behind : (vs w : List ℕ) (g n f : ℕ) → g + n ≤ f → take n (drop g (sets w f vs)) ≡ take n (drop g w)
sets_behind [] w g n f h = refl
sets_behind (v ∷ vs) w g n f h = sets_behind vs (set w f v) g n (suc f) (omega arith) ∙ set_behind w g n f v h

pub sets_there : (vs w : List ℕ) (f : ℕ) → f + length vs ≤ length w → take (length vs) (drop f (sets w f vs)) ≡ vs
sets_there vs w f h =
    ap (λ (x : List ℕ). take (length vs) (drop f x)) (sets-eq vs w f h ∙ append_assoc (take f w) vs (drop (f + length vs) w))
    ∙ ap (take (length vs)) (drop_at (take f w) (vs ++ drop (f + length vs) w) f (length-take f w ∙ omega arith))
    ∙ take_at vs (drop (f + length vs) w) (length vs) refl

pub getD_sets_out : (vs w : List ℕ) (f i : ℕ) → (i < f) ⊎ (f + length vs ≤ i) → get_or (sets w f vs) i 0 ≡ get_or w i 0
getD_sets_out [] w f i h = refl
getD_sets_out (v ∷ vs) w f i h = getD_sets_out vs (set w f v) (suc f) i (grind arith) ∙ get_or-set_other w f i v 0 (omega arith)

-- as a splice
pub sets_splice : (w vs : List ℕ) (f : ℕ) → f + length vs ≤ length w → sets w f vs ≡ take f w ++ (vs ++ drop (f + length vs) w)
sets_splice w vs f h = sets-eq vs w f h ∙ append_assoc (take f w) vs (drop (f + length vs) w)

pub getD_sets_in : (vs w : List ℕ) (f i : ℕ) → f + length vs ≤ length w → i < length vs → get_or (sets w f vs) (f + i) 0 ≡ get_or vs i 0
getD_sets_in [] w f i h l = absurd (omega arith)
getD_sets_in (v ∷ vs) w f zero h l =
    let here : f + 0 ≡ f = omega arith in
    ap (λ k. get_or (sets (set w f v) (suc f) vs) k 0) here ∙ getD_sets_out vs (set w f v) (suc f) f (inl (omega arith)) ∙ get_or-set_same w f v 0 (omega arith)
getD_sets_in (v ∷ vs) w f (suc i) h l =
    let next : f + suc i ≡ suc f + i = omega arith in
    ap (λ k. get_or (sets (set w f v) (suc f) vs) k 0) next ∙ getD_sets_in vs (set w f v) (suc f) i (rw (length-set w f v) (omega arith)) (omega arith)
