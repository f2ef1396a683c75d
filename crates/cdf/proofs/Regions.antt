-- Windows of 4 words and windows of 16 words have no word and no table in common, so that putting one back does not
-- touch what the other holds, and none of it depends on the order.
use Rattle.std.proofs.Common.{◌≡◌, ℕ, zero, suc, ◌+◌, ◌<◌, ◌≤◌, Bool, true, false, cond, ◌&&◌, ◌||◌, T, eqb, leb, ◌⊎◌, List, [], ◌∷◌, ◌++◌, length, get_or, take, sym, refl, ap, ◌∙◌, ap₂, inl, inr, arith, leb→le}
use Rattle.std.proofs.lemmas.Bool.{and_parts, le-leb}
use Rattle.std.proofs.lemmas.Bool.Decides.{nat_tests}
use lib.Seq.{sets, length-sets}
use Rattle.std.proofs.lemmas.List.{length-take}
use Rattle.cdf.specs.Layout.{words_in_all, tables, small_tables, large_tables, joint_fillers, component_fillers, fillers, descends, all_descend, all_zero, lawful, table_sizes, in_layout, SoundWords}
use Rattle.cdf.specs.Lists.{from}
use Rattle.cdf.specs.Windows.{window, taken_window, put_window, small_place, large_place}
use Rattle.cdf.specs.Words.{Words, Table, table, words_of, adapted}
use Rattle.cdf.proofs.Adapting.{length_moved}
use Rattle.cdf.proofs.Booleans.{and_first, and_second, and_assoc, and_true, true→T, T→true}
use Rattle.cdf.proofs.Layouts.{each_table}
use Rattle.cdf.proofs.Ranges.{all_below}
use Rattle.cdf.proofs.Stores.{sets_before, sets_behind, sets_over, sets_own, sets_cross, getD_sets_out}

abbrev pub Between : ℕ → ℕ → ℕ → Type 0
Between a f b = (a ≤ f) × (f ≤ b)

pub small_range : (f : ℕ) → T (small_place f) → (f ≤ 18) ⊎ ((f ≡ 302) ⊎ (Between 318 f 354 ⊎ Between 374 f 410))
small_range f h = let e = T→true (small_place f) h in grind (arith, nat_tests)

pub large_range : (f : ℕ) → T (large_place f) → Between 22 f 286 ⊎ ((f ≡ 358) ⊎ (f ≡ 414))
large_range f h = let e = T→true (large_place f) h in grind (arith, nat_tests)

-- windows of the two kinds have no word in common
pub apart : (f g : ℕ) → T (small_place f) → T (large_place g) → (f + 4 ≤ g) ⊎ (g + 16 ≤ f)
apart f g h k = let r = small_range f h in let q = large_range g k in grind arith

-- a window of one kind does not touch the tables of the other
abbrev all_placed : (ℕ → Bool) → ℕ → List Table → Bool
all_placed place n [] = true
all_placed place n (t ∷ ts) = (place t.first && leb t.count n) && all_placed place n ts

small_placed : T (all_placed small_place 4 small_tables)
unfolding small_tables
small_placed = tt

large_placed : T (all_placed large_place 16 large_tables)
unfolding large_tables
large_placed = tt

words_apart : (w : Words) (t : Table) (g : ℕ) (vs : List ℕ) → (t.first + t.count ≤ g) ⊎ (g + length vs ≤ t.first) → words_of (sets w g vs) t ≡ words_of w t
words_apart w t g vs (inl h) = sets_behind vs w t.first t.count g h
words_apart w t g vs (inr h) = ap (take t.count) (sets_before vs w g t.first h)

descend_apart : (place : ℕ → Bool) (n : ℕ) (w : Words) (g : ℕ) (vs : List ℕ)
    → ((t : Table) → T (place t.first) → t.count ≤ n → (t.first + t.count ≤ g) ⊎ (g + length vs ≤ t.first))
    → (ts : List Table) → T (all_placed place n ts) → all_descend (sets w g vs) ts ≡ all_descend w ts
descend_apart place n w g vs f [] h = refl
descend_apart place n w g vs f (t ∷ ts) h =
    let here : T (place t.first && leb t.count n) = and_first (place t.first && leb t.count n) (all_placed place n ts) h in
    ap₂ (λ x y. descends 32768 x && y)
    (words_apart w t g vs (f t (and_first (place t.first) (leb t.count n) here) (leb→le t.count n (and_second (place t.first) (leb t.count n) here))))
    (descend_apart place n w g vs f ts (and_second (place t.first && leb t.count n) (all_placed place n ts) h))

pub small_untouched : (w : Words) (g : ℕ) (vs : List ℕ) → T (large_place g) → length vs ≤ 16 → all_descend (sets w g vs) small_tables ≡ all_descend w small_tables
small_untouched w g vs h k = descend_apart small_place 4 w g vs (λ t p l. let a = apart t.first g p h in grind arith) small_tables small_placed

pub large_untouched : (w : Words) (f : ℕ) (us : List ℕ) → T (small_place f) → length us ≤ 4 → all_descend (sets w f us) large_tables ≡ all_descend w large_tables
large_untouched w f us h k = descend_apart large_place 16 w f us (λ t p l. let a = apart f t.first h p in grind arith) large_tables large_placed

zeros_apart : (n a : ℕ) (w : Words) (f : ℕ) (vs : List ℕ) → (a + n ≤ f) ⊎ (f + length vs ≤ a) → all_zero (sets w f vs) (from a n) ≡ all_zero w (from a n)
zeros_apart zero a w f vs h = refl
zeros_apart (suc n) a w f vs h =
    let here : (a < f) ⊎ (f + length vs ≤ a) = grind arith in
    ap₂ (λ x y. eqb x 0 && y) (getD_sets_out vs w f a here) (zeros_apart n (suc a) w f vs (grind arith))

-- lawful words, by the two regions: the tables of up to 4 symbols with the words behind the joints, and the others
low : Words → Bool
low w = all_descend w small_tables && all_zero w joint_fillers

high : Words → Bool
high w = all_descend w large_tables && all_zero w component_fillers

descend_append : (w : Words) (ts us : List Table) → all_descend w (ts ++ us) ≡ (all_descend w ts && all_descend w us)
descend_append w [] us = refl
descend_append w (t ∷ ts) us = ap (λ x. descends 32768 (words_of w t) && x) (descend_append w ts us) ∙ and_assoc (descends 32768 (words_of w t)) (all_descend w ts) (all_descend w us)

zero_append : (w : Words) (is js : List ℕ) → all_zero w (is ++ js) ≡ (all_zero w is && all_zero w js)
zero_append w [] js = refl
zero_append w (i ∷ is) js = ap (λ x. eqb (get_or w i 0) 0 && x) (zero_append w is js) ∙ and_assoc (eqb (get_or w i 0) 0) (all_zero w is) (all_zero w js)

two_parts : (w : Words) → lawful w ≡ (low w && high w)
unfolding lawful tables fillers low high
two_parts w =
    ap₂ (λ x y. x && y) (descend_append w small_tables large_tables) (zero_append w joint_fillers component_fillers)
    ∙ swap (all_descend w small_tables) (all_descend w large_tables) (all_zero w joint_fillers) (all_zero w component_fillers)
  where
    swap : (a b c d : Bool) → ((a && b) && (c && d)) ≡ ((a && c) && (b && d))
    swap false b c d = refl
    swap true false true d = refl
    swap true false false d = refl
    swap true true c d = refl

high_untouched : (w : Words) (f : ℕ) (us : List ℕ) → T (small_place f) → length us ≤ 4 → high (sets w f us) ≡ high w
unfolding high
high_untouched w f us h k =
    let r = small_range f h in
    ap₂ (λ x y. x && y) (large_untouched w f us h k)
    (zero_append (sets w f us) (from 369 5) (from 425 5)
    ∙ ap₂ (λ x y. x && y) (zeros_apart 5 369 w f us (grind arith)) (zeros_apart 5 425 w f us (inr (omega arith)))
    ∙ sym (zero_append w (from 369 5) (from 425 5)))

low_untouched : (w : Words) (g : ℕ) (vs : List ℕ) → T (large_place g) → length vs ≤ 16 → low (sets w g vs) ≡ low w
unfolding low
low_untouched w g vs h k = let r = large_range g h in ap₂ (λ x y. x && y) (small_untouched w g vs h k) (zeros_apart 12 306 w g vs (grind arith))

-- a put-back keeps words sound
cond_sound : (b : Bool) (v w : Words) → (b ≡ true → SoundWords v) → SoundWords w → SoundWords (cond b v w)
cond_sound true v w f s = f refl
cond_sound false v w f s = s

pub put_sound : (f : ℕ) (us : List ℕ) (w : Words) → SoundWords w → SoundWords (put_window f us w)
put_sound f us w s =
    cond_sound (leb (f + length us) words_in_all && lawful (sets w f us)) (sets w f us) w
    (λ e. record { number = length-sets w f us ∙ s.number; fits = (and_parts (leb (f + length us) words_in_all) (lawful (sets w f us)) e).1 }) s

-- the test of a window in its region
parts : (w : Words) → SoundWords w → (low w ≡ true) × (high w ≡ true)
parts w s = and_parts (low w) (high w) (sym (two_parts w) ∙ s.fits)

pub inside_small : (f : ℕ) (us : List ℕ) → T (small_place f) → length us ≤ 4 → leb (f + length us) words_in_all ≡ true
inside_small f us h k = let r = small_range f h in le-leb _ words_in_all (omega arith)

pub inside_large : (g : ℕ) (vs : List ℕ) → T (large_place g) → length vs ≤ 16 → leb (g + length vs) words_in_all ≡ true
inside_large g vs h k = let r = large_range g h in le-leb _ words_in_all (omega arith)

taken_low : (w : Words) (f : ℕ) (us : List ℕ) → SoundWords w → T (small_place f) → length us ≤ 4 → taken_window f us w ≡ low (sets w f us)
taken_low w f us s h k =
    ap (λ a. a && lawful (sets w f us)) (inside_small f us h k) ∙ two_parts (sets w f us)
    ∙ ap (λ b. low (sets w f us) && b) (high_untouched w f us h k ∙ (parts w s).1) ∙ and_true (low (sets w f us))

taken_high : (w : Words) (g : ℕ) (vs : List ℕ) → SoundWords w → T (large_place g) → length vs ≤ 16 → taken_window g vs w ≡ high (sets w g vs)
taken_high w g vs s h k =
    ap (λ a. a && lawful (sets w g vs)) (inside_large g vs h k) ∙ two_parts (sets w g vs)
    ∙ ap (λ a. a && high (sets w g vs)) (low_untouched w g vs h k ∙ (parts w s).0)

put_low : (w : Words) (f : ℕ) (us : List ℕ) → SoundWords w → T (small_place f) → length us ≤ 4 → put_window f us w ≡ cond (low (sets w f us)) (sets w f us) w
put_low w f us s h k = ap (λ b. cond b (sets w f us) w) (taken_low w f us s h k)

put_high : (w : Words) (g : ℕ) (vs : List ℕ) → SoundWords w → T (large_place g) → length vs ≤ 16 → put_window g vs w ≡ cond (high (sets w g vs)) (sets w g vs) w
put_high w g vs s h k = ap (λ b. cond b (sets w g vs) w) (taken_high w g vs s h k)

crossed : (w : Words) (f g : ℕ) (us vs : List ℕ) → T (small_place f) → length us ≤ 4 → T (large_place g) → length vs ≤ 16 → sets (sets w f us) g vs ≡ sets (sets w g vs) f us
crossed w f g us vs h k h' k' = both (apart f g h h')
  where
    both : (f + 4 ≤ g) ⊎ (g + 16 ≤ f) → sets (sets w f us) g vs ≡ sets (sets w g vs) f us
    both (inl l) = sets_cross us vs w f g (omega arith)
    both (inr l) = sym (sets_cross vs us w g f (omega arith))

-- whether a window is taken does not hang on one of the other kind
pub small_still : (w : Words) (f g : ℕ) (us vs : List ℕ) → SoundWords w → T (small_place f) → length us ≤ 4 → T (large_place g) → length vs ≤ 16
    → taken_window f us (put_window g vs w) ≡ taken_window f us w
small_still w f g us vs s h k h' k' = taken_low (put_window g vs w) f us (put_sound g vs w s) h k ∙ go (taken_window g vs w) ∙ sym (taken_low w f us s h k)
  where
    go : (b : Bool) → low (sets (cond b (sets w g vs) w) f us) ≡ low (sets w f us)
    go true = ap low (sym (crossed w f g us vs h k h' k')) ∙ low_untouched (sets w f us) g vs h' k'
    go false = refl

pub large_still : (w : Words) (f g : ℕ) (us vs : List ℕ) → SoundWords w → T (small_place f) → length us ≤ 4 → T (large_place g) → length vs ≤ 16
    → taken_window g vs (put_window f us w) ≡ taken_window g vs w
large_still w f g us vs s h k h' k' = taken_high (put_window f us w) g vs (put_sound f us w s) h' k' ∙ go (taken_window f us w) ∙ sym (taken_high w g vs s h' k')
  where
    go : (b : Bool) → high (sets (cond b (sets w f us) w) g vs) ≡ high (sets w g vs)
    go true = ap high (crossed w f g us vs h k h' k') ∙ high_untouched (sets w g vs) f us h k
    go false = refl

pub put_commute : (w : Words) (f g : ℕ) (us vs : List ℕ) → SoundWords w → T (small_place f) → length us ≤ 4 → T (large_place g) → length vs ≤ 16
    → put_window g vs (put_window f us w) ≡ put_window f us (put_window g vs w)
put_commute w f g us vs s h k h' k' =
    put_high (put_window f us w) g vs (put_sound f us w s) h' k'
    ∙ ap (λ z. cond (high (sets z g vs)) (sets z g vs) z) (put_low w f us s h k)
    ∙ inner e (ap low (sym e) ∙ low_untouched first g vs h' k') (ap high e ∙ high_untouched second f us h k) (low first) (high second) refl refl
    ∙ ap (λ z. cond (low (sets z f us)) (sets z f us) z) (sym (put_high w g vs s h' k'))
    ∙ sym (put_low (put_window g vs w) f us (put_sound g vs w s) h k)
  where
    first : Words
    first = sets w f us

    second : Words
    second = sets w g vs

    e : sets first g vs ≡ sets second f us
    e = crossed w f g us vs h k h' k'

    inner : sets first g vs ≡ sets second f us → low (sets second f us) ≡ low first → high (sets first g vs) ≡ high second → (p q : Bool) → low first ≡ p → high second ≡ q
        → cond (high (sets (cond p first w) g vs)) (sets (cond p first w) g vs) (cond p first w) ≡ cond (low (sets (cond q second w) f us)) (sets (cond q second w) f us) (cond q second w)
    inner e a b true true x y = ap (λ c. cond c (sets first g vs) first) (b ∙ y) ∙ e ∙ ap (λ c. cond c (sets second f us) second) (sym (a ∙ x))
    inner e a b true false x y = ap (λ c. cond c (sets first g vs) first) (b ∙ y) ∙ ap (λ c. cond c first w) (sym x)
    inner e a b false true x y = ap (λ c. cond c second w) y ∙ ap (λ c. cond c (sets second f us) second) (sym (a ∙ x))
    inner e a b false false x y = ap (λ c. cond c second w) y ∙ ap (λ c. cond c first w) (sym x)

-- a window of a table of the layout lies in its region
abbrev placed_by : Bool → Table → Bool
placed_by true t = small_place t.first
placed_by false t = large_place t.first && leb t.count 16

sizes_placed_by : T (all_below words_in_all (λ f. eqb (get_or table_sizes f 0) 0 || placed_by (leb (get_or table_sizes f 0) 4) (table f (get_or table_sizes f 0))))
unfolding table_sizes
sizes_placed_by = tt

abbrev pub PlaceOf : Bool → Table → Type 0
PlaceOf true t = T (small_place t.first)
PlaceOf false t = T (large_place t.first) × (t.count ≤ 16)

pub table_place : (t : Table) → in_layout t ≡ true → PlaceOf (leb t.count 4) t
table_place t h = go (leb t.count 4) (true→T _ (each_table (λ u. placed_by (leb u.count 4) u) sizes_placed_by t h))
  where
    go : (b : Bool) → T (placed_by b t) → PlaceOf b t
    go true h = h
    go false h = (and_first (large_place t.first) (leb t.count 16) h, leb→le t.count 16 (and_second (large_place t.first) (leb t.count 16) h))

-- the window, put back after a symbol adapted the table, gives the words before
pub window_restores : (n : ℕ) (w : Words) (t : Table) (s : ℕ) → t.count ≤ n
    → sets (sets w t.first (adapted t.count (words_of w t) s)) t.first (window n w t.first) ≡ w
window_restores n w t s h =
    sets_over (adapted t.count (words_of w t) s) (window n w t.first) w t.first fits ∙ sets_own n w t.first
  where
    fits : length (adapted t.count (words_of w t) s) ≤ length (window n w t.first)
    fits = rw (length_moved _ s 0 (words_of w t)) (simp length-take (omega arith))
