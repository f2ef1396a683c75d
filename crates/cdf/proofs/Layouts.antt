-- The tables of the layout lie apart from each other and from the fillers, so that a symbol leaves the words sound.
use Rattle.std.proofs.Common.{◌≡◌, ℕ, zero, suc, ◌+◌, ◌<◌, ◌≤◌, Bool, true, ◌&&◌, ◌||◌, T, eqb, ltb, leb, ◌⊎◌, List, [], ◌∷◌, length, get_or, take, drop, sym, refl, ap, ◌∙◌, subst, ap₂, inl, inr, arith}
use lib.Seq.{sets, length-sets}
use Rattle.std.specs.List.{list_all, list_any}
use Rattle.std.proofs.lemmas.Bool.{cases_lt, ltb-true, leb-true, eqb-true, le-leb, ne_eqb, and_parts, and_from, or_cases}
use Rattle.std.proofs.lemmas.List.{length-take, length-drop, get_or_past}
use Rattle.std.proofs.lemmas.List.Folds.{Any-from_list_any}
use Rattle.std.proofs.lemmas.List.Recursion.{and_at, and_from_places}
use Rattle.std.proofs.lemmas.List.Sums.{AllPass-from_list_all}
use Rattle.cdf.specs.Layout.{words_in_all, tables, small_tables, large_tables, fillers, descends, all_descend, all_zero, lawful, table_sizes, in_layout, OneLayout, WordsStaySound}
use Rattle.cdf.specs.Lists.{Each}
use Rattle.cdf.specs.Words.{Words, Table, table, words_of, updated, adapted, Descends}
use Rattle.cdf.proofs.Adapting.{table_stays_lawful, length_moved}
use Rattle.cdf.proofs.Ranges.{all_below, true_below}
use Rattle.cdf.proofs.Stores.{sets_before, sets_behind, sets_there, getD_sets_out}

pub sizes_number : length table_sizes ≡ words_in_all
unfolding table_sizes
sizes_number = refl

pub one_layout : OneLayout
unfolding tables small_tables large_tables fillers table_sizes
one_layout = record { small = refl; large = refl; number = refl; others = refl; words = refl }

-- what holds of the table at each word where one begins holds of each table of the layout
pub each_table : (P : Table → Bool) → T (all_below words_in_all (λ f. eqb (get_or table_sizes f 0) 0 || P (table f (get_or table_sizes f 0)))) → (t : Table) → in_layout t ≡ true → P t ≡ true
unfolding in_layout
each_table P all t h = go (cases_lt t.first words_in_all)
  where
    some : 0 < t.count
    some = ltb-true 0 t.count (and_parts (ltb 0 t.count) _ h).0

    size : get_or table_sizes t.first 0 ≡ t.count
    size = eqb-true _ t.count (and_parts (ltb 0 t.count) _ h).1

    found : (n : ℕ) → n ≡ t.count → (eqb n 0 || P (table t.first n)) ≡ true → P t ≡ true
    found n e k = subst (λ m. P (table t.first m) ≡ true) e (rw (ne_eqb n 0 (λ z. let none : ⊥ = omega (arith, some) in none)) at k)

    go : (t.first < words_in_all) ⊎ (words_in_all ≤ t.first) → P t ≡ true
    go (inl l) = found _ size (true_below words_in_all (λ f. eqb (get_or table_sizes f 0) 0 || P (table f (get_or table_sizes f 0))) all t.first l)
    go (inr l) = let past : get_or table_sizes t.first 0 ≡ 0 = get_or_past table_sizes t.first 0 (omega (arith, sizes_number)) in absurd (omega (arith, size, some))

-- no table has one symbol only or more than 16
sizes_fit : T (all_below words_in_all (λ f. eqb (get_or table_sizes f 0) 0 || (leb 2 (get_or table_sizes f 0) && leb (get_or table_sizes f 0) 16)))
unfolding table_sizes
sizes_fit = tt

pub table_count : (t : Table) → in_layout t ≡ true → (2 ≤ t.count) × (t.count ≤ 16)
table_count t h =
    let fits = and_parts (leb 2 t.count) _ (each_table (λ u. leb 2 u.count && leb u.count 16) sizes_fit t h) in
    (leb-true 2 t.count fits.0, leb-true t.count 16 fits.1)

abbrev same : Table → Table → Bool
same t u = eqb t.first u.first && eqb t.count u.count

same_table : (t u : Table) → same t u ≡ true → t ≡ u
same_table t u e =
    let k = and_parts (eqb t.first u.first) (eqb t.count u.count) e in
    λ j. record { first = eqb-true t.first u.first k.0 j; count = eqb-true t.count u.count k.1 j }

-- two tables are one, or apart
abbrev clear : Table → Table → Bool
clear t u = leb (t.first + t.count) u.first || (leb (u.first + u.count) t.first || same t u)

abbrev off : Table → ℕ → Bool
off t i = leb (suc i) t.first || leb (t.first + t.count) i

-- a table lies in the words, apart from the other tables and from the fillers
abbrev placed : Table → Bool
placed t = leb (t.first + t.count) words_in_all && (list_all (clear t) tables && list_all (off t) fillers)

sizes_placed : T (all_below words_in_all (λ f. eqb (get_or table_sizes f 0) 0 || placed (table f (get_or table_sizes f 0))))
unfolding tables small_tables large_tables fillers table_sizes
sizes_placed = tt

-- so each table of the layout
place_of : (t : Table) → in_layout t ≡ true → (leb (t.first + t.count) words_in_all ≡ true) × ((list_all (clear t) tables ≡ true) × (list_all (off t) fillers ≡ true))
place_of t h = let p = and_parts (leb (t.first + t.count) words_in_all) _ (each_table placed sizes_placed t h) in (p.0, and_parts (list_all (clear t) tables) _ p.1)

pub table_inside : (t : Table) → in_layout t ≡ true → t.first + t.count ≤ words_in_all
table_inside t h = leb-true _ words_in_all (place_of t h).0

descends_test : (top : ℕ) (vs : List ℕ) → Descends top vs → descends top vs ≡ true
descends_test top [] h = absurd h
descends_test top (c ∷ []) h = le-leb c 32 h
descends_test top (v ∷ x ∷ []) h = and_from (leb v top) (leb x 32) (le-leb v top h.0) (le-leb x 32 h.1)
descends_test top (v ∷ x ∷ y ∷ ys) h = and_from (leb v top) (descends v (x ∷ y ∷ ys)) (le-leb v top h.0) (descends_test v (x ∷ y ∷ ys) h.1)

pub descends_back : (top : ℕ) (vs : List ℕ) → descends top vs ≡ true → Descends top vs
descends_back top [] h = cc
descends_back top (c ∷ []) h = leb-true c 32 h
descends_back top (v ∷ x ∷ []) h = let k = and_parts (leb v top) (leb x 32) h in (leb-true v top k.0, leb-true x 32 k.1)
descends_back top (v ∷ x ∷ y ∷ ys) h = let k = and_parts (leb v top) (descends v (x ∷ y ∷ ys)) h in (leb-true v top k.0, descends_back v (x ∷ y ∷ ys) k.1)

-- each table of the layout is a listed one, so it is lawful where the words are
sizes_listed : T (all_below words_in_all (λ f. eqb (get_or table_sizes f 0) 0 || list_any (same (table f (get_or table_sizes f 0))) tables))
unfolding tables small_tables large_tables table_sizes
sizes_listed = tt

pub table_lawful : (w : Words) (t : Table) → in_layout t ≡ true → lawful w ≡ true → descends 32768 (words_of w t) ≡ true
unfolding lawful
table_lawful w t h fits =
    let found = Any-from_list_any (same t) tables (each_table (λ u. list_any (same u) tables) sizes_listed t h) in
    let there = and_at (all_descend w) (λ u. descends 32768 (words_of w u)) refl (λ _ _. refl) tables found.0 found.1 found.2 (and_parts (all_descend w tables) (all_zero w fillers) fits).0 in
    subst (λ (u : Table). descends 32768 (words_of w u) ≡ true) (found.3 ∙ sym (same_table t found.1 found.4)) there

-- what holds of each element holds at each place
each_at : {A : Type 0} (P : A → Type 0) (xs : List A) (i : ℕ) (d : A) → i < length xs → Each P xs → P (get_or xs i d)
each_at P [] i d l e = absurd (omega arith)
each_at P (x ∷ xs) zero d l e = e.0
each_at P (x ∷ xs) (suc i) d l e = each_at P xs i d (omega arith) e.1

-- the tables stay lawful, whatever the fillers hold
stays_each : (w : Words) (t : Table) (s : ℕ) → in_layout t ≡ true → length w ≡ words_in_all → all_descend w tables ≡ true → all_descend (updated w t s) tables ≡ true
stays_each w t s h number law =
    and_from_places (all_descend after) (λ u. descends 32768 (words_of after u)) refl (λ _ _. refl) tables t
    (λ i l. each (get_or tables i t) (AllPass-from_list_all (clear t) tables (place_of t h).1.0 i t l) (and_at (all_descend w) (λ u. descends 32768 (words_of w u)) refl (λ _ _. refl) tables i t l law))
  where
    vs : List ℕ
    vs = adapted t.count (words_of w t) s

    after : Words
    after = updated w t s

    fits : t.first + t.count ≤ length w
    fits = omega (arith, table_inside t h, number)

    long : length vs ≡ t.count
    long = length_moved _ s 0 (words_of w t) ∙ simp (length-take, length-drop) (omega (arith, fits))

    own : descends 32768 (words_of w t) ≡ true → descends 32768 (words_of after t) ≡ true
    own d =
        subst (λ (l : List ℕ). descends 32768 l ≡ true) (sym (ap (λ (x : ℕ). take x (drop t.first after)) (sym long) ∙ sets_there vs w t.first (omega (arith, long, fits))))
        (descends_test 32768 vs (table_stays_lawful t.count (words_of w t) s (descends_back 32768 (words_of w t) d)))

    each : (u : Table) → clear t u ≡ true → descends 32768 (words_of w u) ≡ true → descends 32768 (words_of after u) ≡ true
    each u c d = go (or_cases (leb (t.first + t.count) u.first) _ c)
      where
        rest : (leb (u.first + u.count) t.first ≡ true) ⊎ (same t u ≡ true) → descends 32768 (words_of after u) ≡ true
        rest (inl e) = rw (sets_behind vs w u.first u.count t.first (leb-true _ t.first e)) d
        rest (inr e) = subst (λ (v : Table). descends 32768 (words_of after v) ≡ true) (same_table t u e) (own (subst (λ (v : Table). descends 32768 (words_of w v) ≡ true) (sym (same_table t u e)) d))

        go : (leb (t.first + t.count) u.first ≡ true) ⊎ ((leb (u.first + u.count) t.first || same t u) ≡ true) → descends 32768 (words_of after u) ≡ true
        go (inl e) = let k : t.first + length vs ≤ u.first = omega (arith, long, leb-true _ u.first e) in rw (sets_before vs w t.first u.first k) d
        go (inr e) = rest (or_cases (leb (u.first + u.count) t.first) _ e)

-- what lies off a table stays zero or not
zeros_stay : (w : Words) (t : Table) (vs : List ℕ) → length vs ≤ t.count → (is : List ℕ) → list_all (off t) is ≡ true → all_zero (sets w t.first vs) is ≡ all_zero w is
zeros_stay w t vs l [] h = refl
zeros_stay w t vs l (i ∷ is) h =
    let p = and_parts (off t i) (list_all (off t) is) h in
    ap₂ (λ x y. eqb x 0 && y) (getD_sets_out vs w t.first i (go (or_cases (leb (suc i) t.first) _ p.0))) (zeros_stay w t vs l is p.1)
  where
    go : (leb (suc i) t.first ≡ true) ⊎ (leb (t.first + t.count) i ≡ true) → (i < t.first) ⊎ (t.first + length vs ≤ i)
    go (inl e) = inl (leb-true (suc i) t.first e)
    go (inr e) = inr (omega (arith, l, leb-true _ i e))

pub words_stay_sound : WordsStaySound
unfolding lawful
words_stay_sound w t s h sound = record {
  number = length-sets w t.first vs ∙ sound.number;
  fits = and_from _ _ (stays_each w t s h sound.number law.0) (zeros_stay w t vs short fillers (place_of t h).1.1 ∙ law.1);
}
  where
    vs : List ℕ
    vs = adapted t.count (words_of w t) s

    law : (all_descend w tables ≡ true) × (all_zero w fillers ≡ true)
    law = and_parts (all_descend w tables) (all_zero w fillers) sound.fits

    short : length vs ≤ t.count
    short = rw (length_moved _ s 0 (words_of w t)) (rw length-take (omega arith))
