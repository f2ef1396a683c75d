-- The book, call by call.
use Rattle.std.proofs.Common.{◌≡◌, ℕ, zero, suc, ◌+◌, ◌-◌, ◌<◌, ◌≤◌, List, [], ◌∷◌, ◌++◌, map, length, reverse, get_or, take, drop, Some, sym, refl, ap, ◌∙◌, subst, inl, inr, arith}
use Rattle.std.specs.List.{slice_get}
use Rattle.std.proofs.lemmas.List.{at_drop_more, get_or-reverse, length-append, length-reverse, length-take, take-map}
use Rattle.std.proofs.lemmas.Option.{get_or_from_slice_get}
use Rattle.cdf.specs.Lists.{Each}
use Rattle.av1.specs.declared.call.Call.{Call}
use Rattle.model.specs.declared.Question.{Question}
use Rattle.model.specs.Decisions.{Decision, stage}
use Rattle.model.specs.Runs.{Asking, Book, Told, ask, cut_book, ended, keep, noted, open_trial, opened, refused, take_back, wrote}
use Rattle.model.proofs.Trails.{each_append, each_take}
use Rattle.replay.specs.declared.book.Standing.{Standing}
use Rattle.replay.specs.Books.{kept}
use Rattle.replay.specs.Calls.{Answered, asking}
use Rattle.replay.specs.Rounds.{MadeOf}
use Rattle.replay.specs.Runs.{book_of, told_of}

cut_at_top : {A : Type 0} (xs : List A) (ns : List ℕ) → 0 < length ns → cut_book xs ns ≡ take (get_or ns 0 0) xs
cut_at_top xs [] h = absurd (omega arith)
cut_at_top xs (n ∷ ns) h = refl

-- the top is the last of the numbers that are kept
pub cut_to_last : {A B : Type 0} (f : A → B) (xs : List A) (ns : List ℕ) (n : ℕ) → Some n ≡ slice_get ns (length ns - 1) → map f (take n xs) ≡ cut_book (map f xs) (reverse ns)
cut_to_last f xs [] n e = cc
cut_to_last f xs (m ∷ ns) n e =
    let end : length (m ∷ ns) - 1 - 0 ≡ length (m ∷ ns) - 1 = omega arith in
    let top : get_or (reverse (m ∷ ns)) 0 0 ≡ n =
    get_or-reverse (m ∷ ns) 0 0 (omega arith) ∙ ap (λ i. get_or (m ∷ ns) i 0) end ∙ get_or_from_slice_get (m ∷ ns) (length (m ∷ ns) - 1) n 0 (sym e) in
    sym (take-map f n xs)
    ∙ ap (λ k. take k (map f xs)) (sym top)
    ∙ sym (cut_at_top (map f xs) (reverse (m ∷ ns)) (omega (arith, length-reverse (m ∷ ns))))

-- one call more is taken down
pub noted_more : (cs : List Call) (as' : List Answered) (i : ℕ) (c : Call) (a : Answered) (b : Book Question Decision) → i < length cs → i < length as'
    → book_of b (drop i cs) (drop i as') ≡ book_of (noted b (asking (get_or cs i c)) (told_of (get_or cs i c) (get_or as' i a))) (drop (i + 1) cs) (drop (i + 1) as')
noted_more cs as' i c a b h k =
    at_drop_more (λ l. book_of b l (drop i as')) cs i c h
    ∙ at_drop_more (λ l. book_of b (get_or cs i c ∷ drop (i + 1) cs) l) as' i a k

made_at : (cs : List Call) (as' : List Answered) (i : ℕ) (c : Call) (a : Answered) → i < length cs → i < length as' → MadeOf cs as' (kept (get_or cs i c) (get_or as' i a))
made_at [] as' i c a h k = absurd (omega arith)
made_at (x ∷ cs) [] i c a h k = absurd (omega arith)
made_at (x ∷ cs) (y ∷ as') zero c a h k = inl refl
made_at (x ∷ cs) (y ∷ as') (suc i) c a h k = inr (made_at cs as' i c a (omega arith) (omega arith))

-- so that each call of the book is one of those that were taken down
pub made_more : (cs : List Call) (as' : List Answered) (i : ℕ) (c : Call) (a : Answered) (old new : List Standing) → i < length cs → i < length as'
    → new ≡ take (length new) (old ++ kept (get_or cs i c) (get_or as' i a) ∷ []) → Each (MadeOf cs as') old → Each (MadeOf cs as') new
made_more cs as' i c a old new h k e before =
    subst (Each (MadeOf cs as')) (sym e)
    (each_take (MadeOf cs as') (length new) _ (each_append (MadeOf cs as') old (_ ∷ []) before (made_at cs as' i c a h k, tt)))

-- answers behind those of the calls do not matter
pub made_front : (cs : List Call) (as' : List Answered) (ss : List Standing) → Each (MadeOf cs as') ss → Each (MadeOf cs (take (length cs) as')) ss
made_front cs as' [] e = tt
made_front cs as' (s ∷ ss) e =
    (front cs as' e.0, made_front cs as' ss e.1)
  where
    front : (cs : List Call) (as' : List Answered) → MadeOf cs as' s → MadeOf cs (take (length cs) as') s
    front [] as' m = m
    front (c ∷ cs) [] m = m
    front (c ∷ cs) (a ∷ as') (inl e) = inl e
    front (c ∷ cs) (a ∷ as') (inr m) = inr (front cs as' m)

-- a book has no more calls than were taken down
pub standing_few : (cs : List Call) (as' : List Answered) (b : Book Question Decision) → length (book_of b cs as').standing ≤ length b.standing + length cs
standing_few [] as' b = omega arith
standing_few (c ∷ cs) [] b = omega arith
standing_few (c ∷ cs) (a ∷ as') b =
    omega (arith, standing_few cs as' (noted b (asking c) (told_of c a)), one (asking c) (told_of c a))
  where
    cut_few : (ns : List ℕ) → length (cut_book b.standing ns) ≤ length b.standing
    cut_few [] = omega arith
    cut_few (n ∷ ns) = omega (arith, length-take n b.standing)

    one : (c : Asking stage) (t : Told Question Decision) → length (noted b c t).standing ≤ length b.standing + 1
    one (ask q d) (wrote n x) = omega (arith, length-append b.standing (x ∷ []))
    one open_trial (wrote n x) = omega arith
    one (take_back k) (wrote n x) = omega arith
    one (keep k) (wrote n x) = omega arith
    one (ask q d) (opened n) = omega arith
    one open_trial (opened n) = omega arith
    one (take_back k) (opened n) = omega arith
    one (keep k) (opened n) = omega arith
    one (ask q d) ended = omega arith
    one open_trial ended = omega arith
    one (take_back k) ended = omega (arith, cut_few b.numbers)
    one (keep k) ended = omega arith
    one c (refused n) = omega arith

-- answers behind those of the calls do not matter
pub book_take : (cs : List Call) (as' : List Answered) (b : Book Question Decision) → book_of b cs as' ≡ book_of b cs (take (length cs) as')
book_take [] as' b = refl
book_take (c ∷ cs) [] b = refl
book_take (c ∷ cs) (a ∷ as') b = book_take cs as' (noted b (asking c) (told_of c a))
