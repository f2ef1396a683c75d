-- Undo records in lists and lanes.
use Rattle.std.proofs.Common.{◌≡◌, ℕ, zero, suc, ◌+◌, ◌≤◌, Bool, List, [], ◌∷◌, ◌++◌, length, take, drop, set, sym, refl, ap, ◌∙◌, arith, take-suc-set}
use Rattle.std.proofs.lemmas.List.{append_assoc, append-nil, length-set, take-append-le, drop-append-le, take-append-drop}
use Rattle.cdf.specs.Lists.{Each}
use Rattle.model.specs.Runs.{Lane, Taken, in_use, logged, unwound}

pub unwound_append : {X R : Type 0} (put : X → R → X) (s : X) (xs ys : List R) → unwound put s (xs ++ ys) ≡ unwound put (unwound put s ys) xs
unwound_append put s [] ys = refl
unwound_append put s (x ∷ xs) ys = ap (λ z. put z x) (unwound_append put s xs ys)

-- records put back keep a state sound
pub unwound_sound : {X R : Type 0} (Sound : X → Type 0) (put : X → R → X) (keeps : (s : X) (r : R) → Sound s → Sound (put s r)) (s : X) (rs : List R) → Sound s → Sound (unwound put s rs)
unwound_sound Sound put keeps s [] h = h
unwound_sound Sound put keeps s (r ∷ rs) h = keeps (unwound put s rs) r (unwound_sound Sound put keeps s rs h)

-- one record of another lane passes all of a lane's, where each lies in its own part
pub unwound_past : {X R Q : Type 0} (Sound : X → Type 0) (P : R → Type 0) (put : X → R → X) (other : X → Q → X)
    (keeps : (s : X) (r : R) → Sound s → Sound (put s r)) (q : Q) (commute : (s : X) (r : R) → Sound s → P r → other (put s r) q ≡ put (other s q) r)
    (s : X) (rs : List R) → Sound s → Each P rs → other (unwound put s rs) q ≡ unwound put (other s q) rs
unwound_past Sound P put other keeps q commute s [] h e = refl
unwound_past Sound P put other keeps q commute s (r ∷ rs) h e =
    commute (unwound put s rs) r (unwound_sound Sound put keeps s rs h) e.0 ∙ ap (λ z. put z r) (unwound_past Sound P put other keeps q commute s rs h e.1)

pub unwound_cross : {X R Q : Type 0} (Sound : X → Type 0) (P : R → Type 0) (O : Q → Type 0) (put : X → R → X) (other : X → Q → X)
    (keeps : (s : X) (r : R) → Sound s → Sound (put s r)) (keeps' : (s : X) (q : Q) → Sound s → Sound (other s q))
    (commute : (s : X) (r : R) (q : Q) → Sound s → P r → O q → other (put s r) q ≡ put (other s q) r)
    (s : X) (qs : List Q) (rs : List R) → Sound s → Each P rs → Each O qs → unwound other (unwound put s rs) qs ≡ unwound put (unwound other s qs) rs
unwound_cross Sound P O put other keeps keeps' commute s [] rs h e o = refl
unwound_cross Sound P O put other keeps keeps' commute s (q ∷ qs) rs h e o =
    ap (λ z. other z q) (unwound_cross Sound P O put other keeps keeps' commute s qs rs h e o.1)
    ∙ unwound_past Sound P put other keeps q (λ s r k p. commute s r q k p o.0) (unwound other s qs) rs (unwound_sound Sound other keeps' s qs h) e

pub each_any : {A : Type 0} (xs : List A) → Each (λ (x : A). Unit {0}) xs
each_any [] = tt
each_any (x ∷ xs) = (tt, each_any xs)

pub each_append : {A : Type 0} (P : A → Type 0) (xs ys : List A) → Each P xs → Each P ys → Each P (xs ++ ys)
each_append P [] ys e f = f
each_append P (x ∷ xs) ys e f = (e.0, each_append P xs ys e.1 f)

pub each_take : {A : Type 0} (P : A → Type 0) (n : ℕ) (xs : List A) → Each P xs → Each P (take n xs)
each_take P zero xs e = tt
each_take P (suc n) [] e = tt
each_take P (suc n) (x ∷ xs) e = (e.0, each_take P n xs e.1)

pub each_drop : {A : Type 0} (P : A → Type 0) (n : ℕ) (xs : List A) → Each P xs → Each P (drop n xs)
each_drop P zero xs e = e
each_drop P (suc n) [] e = tt
each_drop P (suc n) (x ∷ xs) e = each_drop P n xs e.1

-- what is above an earlier mark is what lies between the two, and what is above the later
pub drop_between : {R : Type 0} (n m : ℕ) (l : List R) → n ≤ length (take m l) → drop n l ≡ drop n (take m l) ++ drop m l
drop_between n m l h = ap (drop n) (sym (take-append-drop m l)) ∙ drop-append-le n (take m l) (drop m l) h

-- what is below the earlier mark is below the later
pub take_between : {R : Type 0} (n m : ℕ) (l : List R) → n ≤ length (take m l) → take n (take m l) ≡ take n l
take_between n m l h = sym (take-append-le n (take m l) (drop m l) h) ∙ ap (take n) (take-append-drop m l)

pub in_use_logged : {R : Type 0} (rs : List R) (l : Lane R) → l.used + length rs ≤ length l.memory → in_use (logged l rs) ≡ in_use l ++ rs
in_use_logged [] l h = sym (append-nil (in_use l))
in_use_logged (r ∷ rs) l h =
    in_use_logged rs (record { memory = set l.memory l.used r; used = suc l.used }) (rw length-set (omega arith))
    ∙ ap (λ z. z ++ rs) (take-suc-set l.memory l.used r (omega arith))
    ∙ append_assoc (in_use l) (r ∷ []) rs

pub used_logged : {R : Type 0} (rs : List R) (l : Lane R) → (logged l rs).used ≡ l.used + length rs
used_logged [] l = omega arith
used_logged (r ∷ rs) l = used_logged rs (record { memory = set l.memory l.used r; used = suc l.used }) ∙ omega arith

pub memory_logged : {R : Type 0} (rs : List R) (l : Lane R) → length (logged l rs).memory ≡ length l.memory
memory_logged [] l = refl
memory_logged (r ∷ rs) l = memory_logged rs (record { memory = set l.memory l.used r; used = suc l.used }) ∙ length-set l.memory l.used r

pub taken_append : {X R : Type 0} (takes : X → R → Bool) (put : X → R → X) (s : X) (xs ys : List R) → Taken takes put (unwound put s ys) xs → Taken takes put s ys → Taken takes put s (xs ++ ys)
taken_append takes put s [] ys h k = k
taken_append takes put s (x ∷ xs) ys h k = (ap (λ z. takes z x) (unwound_append put s xs ys) ∙ h.0, taken_append takes put s xs ys h.1 k)

-- what another lane puts back does not matter
module _ {X R Q : Type 0} (Sound : X → Type 0) (P : R → Type 0) (O : Q → Type 0) (takes : X → R → Bool) (put : X → R → X) (other : X → Q → X)
    (keeps : (s : X) (r : R) → Sound s → Sound (put s r)) (keeps' : (s : X) (q : Q) → Sound s → Sound (other s q))
    (commute : (s : X) (r : R) (q : Q) → Sound s → P r → O q → other (put s r) q ≡ put (other s q) r)
    (still : (s : X) (r : R) (q : Q) → Sound s → P r → O q → takes (other s q) r ≡ takes s r) where
  still_behind : (s : X) (qs : List Q) (r : R) → Sound s → Each O qs → P r → takes (unwound other s qs) r ≡ takes s r
  still_behind s [] r h o e = refl
  still_behind s (q ∷ qs) r h o e = still (unwound other s qs) r q (unwound_sound Sound other keeps' s qs h) e o.0 ∙ still_behind s qs r h o.1 e

  same_takes : (s : X) (qs : List Q) (r : R) (rs : List R) → Sound s → Each O qs → P r → Each P rs
      → takes (unwound put (unwound other s qs) rs) r ≡ takes (unwound put s rs) r
  same_takes s qs r rs h o p e =
      ap (λ z. takes z r) (sym (unwound_cross Sound P O put other keeps keeps' commute s qs rs h e o))
      ∙ still_behind (unwound put s rs) qs r (unwound_sound Sound put keeps s rs h) o p

  pub taken_on : (s : X) (qs : List Q) (rs : List R) → Sound s → Each O qs → Each P rs → Taken takes put s rs → Taken takes put (unwound other s qs) rs
  taken_on s qs [] h o e t = tt
  taken_on s qs (r ∷ rs) h o e t = (same_takes s qs r rs h o e.0 e.1 ∙ t.0, taken_on s qs rs h o e.1 t.1)

  pub taken_back : (s : X) (qs : List Q) (rs : List R) → Sound s → Each O qs → Each P rs → Taken takes put (unwound other s qs) rs → Taken takes put s rs
  taken_back s qs [] h o e t = tt
  taken_back s qs (r ∷ rs) h o e t = (sym (same_takes s qs r rs h o e.0 e.1) ∙ t.0, taken_back s qs rs h o e.1 t.1)
