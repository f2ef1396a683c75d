-- Laws of a walk over undo records.
use Rattle.std.proofs.Common.{◌≡◌, ℕ, min, List, [], ◌∷◌, ◌++◌, length, take, drop, sym, refl, ap, ◌∙◌, arith}
use Rattle.std.specs.List.{between}
use Rattle.std.proofs.lemmas.List.{length-take-le, drop_min, take_min}
use Rattle.std.proofs.lemmas.Slice as parts
use Rattle.journal.specs.Walks.{visited, undone, Logged, Restoring}

-- the records that a walk visits, as a part of the lane
pub visited_part : {R : Type 0} (lane : List R) (from upto start end : ℕ) → end ≡ min upto (length lane) → start ≡ min from end
    → between start end lane ≡ visited from upto lane
visited_part lane from upto start end e s =
    let long : length (take end lane) ≡ end = length-take-le end lane (omega arith) in
    parts.between_is lane start end
    ∙ ap (λ n. drop n (take end lane)) (s ∙ ap (min from) (sym long))
    ∙ drop_min from (take end lane)
    ∙ ap (drop from) (ap (λ n. take n lane) e ∙ take_min upto lane)

pub undone_append : {R S : Type 0} (put : R → S → S) (rs qs : List R) (s : S) → undone put (rs ++ qs) s ≡ undone put rs (undone put qs s)
undone_append put [] qs s = refl
undone_append put (r ∷ rs) qs s = ap (put r) (undone_append put rs qs s)

-- a walk seen through h
pub undone_through : {R S U : Type 0} (f : R → S → S) (g : R → U → U) (h : S → U) → ((r : R) (s : S) → h (f r s) ≡ g r (h s))
    → (rs : List R) (s : S) → h (undone f rs s) ≡ undone g rs (h s)
undone_through f g h step [] s = refl
undone_through f g h step (r ∷ rs) s = step r (undone f rs s) ∙ ap (g r) (undone_through f g h step rs s)

-- the records of the changes since s, put back, give s
pub logged_back : {R S : Type 0} {put : R → S → S} {holds : R → S → Type 0} {apart : R → S → S → Type 0} → Restoring put holds apart
    → (rs : List R) (s u : S) → Logged holds apart rs s u → undone put rs u ≡ s
logged_back laws [] s u e = sym e
logged_back {put = put} laws (r ∷ rs) s u l = ap (put r) (logged_back laws rs l.0 u l.3) ∙ laws.restores r s l.0 l.1 l.2
