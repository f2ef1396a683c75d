-- Words are lawful exactly where each of them keeps to its limit.
use Rattle.std.proofs.Common.{◌≡◌, ℕ, map, zero, suc, ◌+◌, ◌-◌, ◌<◌, ◌≤◌, Bool, true, false, ◌&&◌, T, eqb, ltb, leb, List, [], ◌∷◌, ◌++◌, length, get_or, take, drop, sym, refl, ap, ◌∙◌, subst, ap₂, arith, eqb→eq, leb→le, drop-cons}
use Rattle.std.specs.List.{list_all, list_any}
use Rattle.std.proofs.lemmas.Bool.{ltb-true, leb-true, and_parts}
use Rattle.std.proofs.lemmas.Bool.Decides.{nat_tests}
use Rattle.std.proofs.lemmas.List.Folds.{Any-from_list_any, list_all-append}
use Rattle.std.proofs.lemmas.List.Sums.{AllPass-from_list_all, list_all-from_AllPass}
use Rattle.cdf.specs.Layout.{words_in_all, tables, small_tables, large_tables, fillers, descends, all_descend, all_zero, lawful}
use Rattle.cdf.specs.Limits.{as_before, limits, keeps_to, word_before, fits_at, all_from, LawfulByLimits}
use Rattle.cdf.specs.Words.{Words, Table, words_of}
use Rattle.cdf.proofs.Booleans.{and_first, and_second, and_true, true→T, T→true, same_test}
use Rattle.cdf.proofs.Runs.{all_at, all_each}

-- a table's test, from word k on
tested : Words → ℕ → ℕ → ℕ → Bool
tested w k zero top = false
tested w k (suc zero) top = leb (get_or w k 0) 32
tested w k (suc (suc n)) top = leb (get_or w k 0) top && tested w (suc k) (suc n) (get_or w k 0)

tested_descends : (n k : ℕ) (w : Words) (top : ℕ) → k + n ≤ length w → descends top (take n (drop k w)) ≡ tested w k n top
unfolding tested
tested_descends zero k w top h = refl
tested_descends (suc zero) k w top h = ap (λ l. descends top (take 1 l)) (drop-cons w k 0 (omega arith))
tested_descends (suc (suc n)) k w top h =
    ap (λ l. descends top (take (suc (suc n)) l)) (drop-cons w k 0 (omega arith))
    ∙ ap (λ l. descends top (get_or w k 0 ∷ take (suc n) l)) (drop-cons w (suc k) 0 (omega arith))
    ∙ ap (λ b. leb (get_or w k 0) top && b) (ap (λ l. descends (get_or w k 0) (take (suc n) l)) (sym (drop-cons w (suc k) 0 (omega arith))) ∙ tested_descends (suc n) (suc k) w (get_or w k 0) (omega arith))

-- the limits of a table's words behind the first
later : ℕ → ℕ → Bool
later k zero = false
later k (suc zero) = eqb (get_or limits k 0) 32
later k (suc (suc n)) = eqb (get_or limits k 0) as_before && later (suc k) (suc n)

limited : Table → Bool
limited t = (leb 2 t.count && leb (t.first + t.count) words_in_all) && (eqb (get_or limits t.first 0) 32768 && later (suc t.first) (t.count - 1))

at_limit : (w : Words) (k limit : ℕ) → T (eqb (get_or limits k 0) limit) → fits_at w k ≡ keeps_to limit (word_before w k) (get_or w k 0)
at_limit w k limit h = ap (λ x. keeps_to x (word_before w k) (get_or w k 0)) (eqb→eq (get_or limits k 0) limit h)

later_tested : (n k : ℕ) (w : Words) → T (later (suc k) n) → tested w (suc k) n (get_or w k 0) ≡ all_from (fits_at w) (suc k) n
unfolding tested later
later_tested zero k w h = absurd h
later_tested (suc zero) k w h = sym (and_true (fits_at w (suc k)) ∙ at_limit w (suc k) 32 h)
later_tested (suc (suc n)) k w h =
    ap₂ (λ a b. a && b) (sym (at_limit w (suc k) as_before (and_first (eqb (get_or limits (suc k) 0) as_before) _ h)))
    (later_tested (suc n) (suc k) w (and_second (eqb (get_or limits (suc k) 0) as_before) _ h))

table_tested : (w : Words) (t : Table) → length w ≡ words_in_all → T (limited t) → descends 32768 (words_of w t) ≡ all_from (fits_at w) t.first t.count
unfolding limited tested
table_tested w t l h = tested_descends t.count f w 32768 fits ∙ head t.count (leb→le 2 t.count (and_first (leb 2 t.count) _ sizes)) (and_second (eqb (get_or limits f 0) 32768) _ named)
  where
    f : ℕ
    f = t.first

    sizes : T (leb 2 t.count && leb (t.first + t.count) words_in_all)
    sizes = and_first (leb 2 t.count && leb (t.first + t.count) words_in_all) _ h

    named : T (eqb (get_or limits t.first 0) 32768 && later (suc t.first) (t.count - 1))
    named = and_second (leb 2 t.count && leb (t.first + t.count) words_in_all) _ h

    fits : t.first + t.count ≤ length w
    fits = let z : t.first + t.count ≤ words_in_all = leb→le (t.first + t.count) words_in_all (and_second (leb 2 t.count) _ sizes) in omega (arith, l, z)

    head : (n : ℕ) → 2 ≤ n → T (later (suc f) (n - 1)) → tested w f n 32768 ≡ all_from (fits_at w) f n
    head zero a c = absurd (omega arith)
    head (suc zero) a c = absurd (omega arith)
    head (suc (suc n)) a c =
        ap₂ (λ x y. x && y) (sym (at_limit w f 32768 (and_first (eqb (get_or limits f 0) 32768) _ named)))
        (later_tested (suc n) f w (subst (λ m. T (later (suc f) m)) less c))
      where
        less : suc (suc n) - 1 ≡ suc n
        less = omega arith

-- pieces of the words: where they begin, and how long they are
abbrev pieces_of : List Table → List (ℕ × ℕ)
pieces_of = map (λ t. (t.first, t.count))

abbrev pieces_at : List ℕ → List (ℕ × ℕ)
pieces_at = map (λ i. (i, 1))

abbrev all_in : (ℕ → Bool) → List (ℕ × ℕ) → Bool
all_in f = list_all (λ p. all_from f p.0 p.1)

tables_tested : (w : Words) → length w ≡ words_in_all → (ts : List Table) → T (list_all limited ts) → all_descend w ts ≡ all_in (fits_at w) (pieces_of ts)
tables_tested w l [] h = refl
tables_tested w l (t ∷ ts) h = ap₂ (λ a b. a && b) (table_tested w t l (and_first (limited t) (list_all limited ts) h)) (tables_tested w l ts (and_second (limited t) (list_all limited ts) h))

abbrev filler : ℕ → Bool
filler i = eqb (get_or limits i 0) 0

zero_test : (n : ℕ) → eqb n 0 ≡ leb n 0
zero_test n = grind (arith, nat_tests)

fillers_tested : (w : Words) (is : List ℕ) → T (list_all filler is) → all_zero w is ≡ all_in (fits_at w) (pieces_at is)
fillers_tested w [] h = refl
fillers_tested w (i ∷ is) h =
    ap₂ (λ a b. a && b) (zero_test (get_or w i 0) ∙ sym (and_true (fits_at w i) ∙ at_limit w i 0 (and_first (filler i) (list_all filler is) h)))
    (fillers_tested w is (and_second (filler i) (list_all filler is) h))

-- all pieces together are all words
abbrev pieces : List (ℕ × ℕ)
pieces = pieces_of tables ++ pieces_at fillers

abbrev holds : ℕ → ℕ × ℕ → Bool
holds k p = leb p.0 k && ltb k (p.0 + p.1)

covered : T (all_from (λ k. list_any (holds k) pieces) 0 words_in_all)
unfolding tables small_tables large_tables fillers
covered = tt

inside : list_all (λ p. leb (p.0 + p.1) words_in_all) pieces ≡ true
unfolding tables small_tables large_tables fillers
inside = refl

piece_at : (f : ℕ → Bool) (k : ℕ) → k < words_in_all → T (all_in f pieces) → T (f k)
piece_at f k l h =
    let found = Any-from_list_any (holds k) pieces (T→true _ (all_at (λ k. list_any (holds k) pieces) words_in_all 0 covered k (omega arith) (omega arith))) in
    let p = found.1 in
    let bounds = and_parts (leb p.0 k) (ltb k (p.0 + p.1)) found.4 in
    let all = AllPass-from_list_all (λ p. all_from f p.0 p.1) pieces (T→true _ h) found.0 p found.2 in
    all_at f p.1 p.0 (true→T _ (rw found.3 at all)) k (leb-true p.0 k bounds.0) (ltb-true k (p.0 + p.1) bounds.1)

pieces_each : (f : ℕ → Bool) → T (all_from f 0 words_in_all) → T (all_in f pieces)
pieces_each f a =
    true→T _ (list_all-from_AllPass (λ p. all_from f p.0 p.1) pieces
    (λ k d l. let p = get_or pieces k d in let m : p.0 + p.1 ≤ words_in_all = leb-true (p.0 + p.1) words_in_all (AllPass-from_list_all (λ p. leb (p.0 + p.1) words_in_all) pieces inside k d l) in
    T→true _ (all_each f p.1 p.0 (λ i x y. all_at f words_in_all 0 a i (omega arith) (omega arith)))))

tables_limited : T (list_all limited tables)
unfolding tables small_tables large_tables limits limited later
tables_limited = tt

fillers_limited : T (list_all filler fillers)
unfolding fillers limits
fillers_limited = tt

pub lawful_by_limits : LawfulByLimits
unfolding lawful
lawful_by_limits w l =
    ap₂ (λ a b. a && b) (tables_tested w l tables tables_limited) (fillers_tested w fillers fillers_limited)
    ∙ sym (list_all-append (λ p. all_from (fits_at w) p.0 p.1) (pieces_of tables) (pieces_at fillers))
    ∙ same_test (all_in (fits_at w) pieces) (all_from (fits_at w) 0 words_in_all)
    (λ h. all_each (fits_at w) words_in_all 0 (λ i a b. piece_at (fits_at w) i (omega arith) h))
    (pieces_each (fits_at w))
