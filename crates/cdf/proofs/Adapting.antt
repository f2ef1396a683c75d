-- A symbol leaves a lawful table lawful, whatever its number of symbols.
use Rattle.std.proofs.Common.{◌≡◌, ℕ, zero, suc, ◌+◌, ◌-◌, ◌*◌, ◌/◌, ◌^◌, ◌<◌, ◌≤◌, Bool, true, false, cond, T, eqb, ltb, ◌⊎◌, List, [], ◌∷◌, length, get_or, set, add-zero, zero-add, sym, refl, ap, ◌∙◌, subst, ap₂, inl, inr, div-lt_iff_lt-mul, add-mul, mul-le-mul_left, one-mul, div-le_self, arith, eqb→eq, ltb→lt, lt→ltb, ext_get_or, pow_pos, pow_mono}
use native.Mathlib.Decide.{ℕ_discrete}
use native.Mathlib.Nat.{div-eq_of_lt, lt-div-mul-add}
use lib.Dec.{eqb_refl}
use Rattle.std.proofs.lemmas.Bool.{cases_lt, lt-ltb, le-ltb}
use Rattle.std.proofs.lemmas.Bool.Decides.{nat_tests}
use Rattle.std.proofs.lemmas.List.{length-set, get_or-set_same, get_or-set_other}
use Rattle.cdf.specs.Words.{moved, counted, moved_from, adapted, rate, Descends, LawfulTable, TableStaysLawful}
use Rattle.cdf.proofs.Booleans.{T→true, not-T→false, same_test}

-- a value of 16 bits is 0 after any shift by 16 or more
pub shifted : (v r : ℕ) → v < 65536 → cond (ltb r 16) (v / 2 ^ r) 0 ≡ v / 2 ^ r
shifted v r h = go (cases_lt r 16)
  where
    go : (r < 16) ⊎ (16 ≤ r) → cond (ltb r 16) (v / 2 ^ r) 0 ≡ v / 2 ^ r
    go (inl l) = ap (λ b. cond b (v / 2 ^ r) 0) (lt-ltb r 16 l)
    go (inr l) =
        let m : 2 ^ 16 ≤ 2 ^ r = pow_mono l in
        ap (λ b. cond b (v / 2 ^ r) 0) (le-ltb r 16 l) ∙ sym (div-eq_of_lt (let below : v < 2 ^ r = omega (arith, m) in below))

-- a quotient grows no faster than what is divided
div_step : (a e k : ℕ) → 0 < k → (a + e) / k ≤ a / k + e
div_step a e k h =
    let x : a < a / k * k + k = lt-div-mul-add h in
    let y : e * 1 ≤ e * k = mul-le-mul_left e h in
    let z : a + e < (a / k + e + 1) * k = simp (add-mul, one-mul) (omega arith) in
    let w : (a + e) / k < a / k + e + 1 = (div-lt_iff_lt-mul h).1 z in
    omega arith

abbrev gain : ℕ → ℕ → ℕ
gain k v = v + (32768 - v) / k

abbrev lose : ℕ → ℕ → ℕ
lose k v = v - v / k

gain_order : (k v top : ℕ) → 0 < k → v ≤ top → top ≤ 32768 → gain k v ≤ gain k top
gain_order k v top h l m =
    let e : 32768 - v ≡ (32768 - top) + (top - v) = omega arith in
    let d : ((32768 - top) + (top - v)) / k ≤ (32768 - top) / k + (top - v) = div_step (32768 - top) (top - v) k h in
    rw e (omega arith)

lose_order : (k v top : ℕ) → 0 < k → v ≤ top → lose k v ≤ lose k top
lose_order k v top h l =
    let e : top ≡ v + (top - v) = omega arith in
    let d : (v + (top - v)) / k ≤ v / k + (top - v) = div_step v (top - v) k h in
    let f : top / k ≤ v / k + (top - v) = subst (λ (x : ℕ). x / k ≤ v / k + (top - v)) (sym e) d in
    let g : v / k ≤ v = div-le_self v k in
    omega arith

-- what moves up moves above what moves down
moved_order : (r : ℕ) (b b' : Bool) (v top : ℕ) → (T b' → T b) → v ≤ top → top ≤ 32768 → moved r b' v ≤ moved r b top
moved_order r true true v top f l m = gain_order (2 ^ r) v top (pow_pos r) l m
moved_order r true false v top f l m = omega arith
moved_order r false false v top f l m = lose_order (2 ^ r) v top (pow_pos r) l
moved_order r false true v top f l m = absurd (f tt)

counter_stays : (c : ℕ) → c ≤ 32 → counted c ≤ 32
counter_stays c h = grind (arith, nat_tests)

descends : (r s i top : ℕ) (b : Bool) (vs : List ℕ) → (T (ltb i s) → T b) → top ≤ 32768 → Descends top vs → Descends (moved r b top) (moved_from r s i vs)
descends r s i top b [] f m h = h
descends r s i top b (c ∷ []) f m h = counter_stays c h
descends r s i top b (v ∷ x ∷ []) f m h = (moved_order r b (ltb i s) v top f h.0 m, counter_stays x h.1)
descends r s i top b (v ∷ x ∷ y ∷ ys) f m h = (
  moved_order r b (ltb i s) v top f h.0 m,
  descends r s (suc i) v (ltb i s) (x ∷ y ∷ ys) before (omega (arith, h.0)) h.1,
)
  where
    before : T (ltb (suc i) s) → T (ltb i s)
    before t = let k : suc i < s = ltb→lt (suc i) s t in lt→ltb i s (omega arith)

top_stays : (r : ℕ) → moved r true 32768 ≡ 32768
top_stays r = let d : 0 / 2 ^ r ≤ 0 = div-le_self 0 (2 ^ r) in omega arith

pub table_stays_lawful : TableStaysLawful
table_stays_lawful count vs s h =
    subst (λ (x : ℕ). Descends x (adapted count vs s)) (top_stays (rate count (get_or vs (count - 1) 0)))
    (descends (rate count (get_or vs (count - 1) 0)) s 0 32768 true vs (λ t. tt) (omega arith) h)

pub length_moved : (rate s i : ℕ) (vs : List ℕ) → length (moved_from rate s i vs) ≡ length vs
length_moved rate s i [] = refl
length_moved rate s i (c ∷ []) = refl
length_moved rate s i (v ∷ x ∷ xs) = ap suc (length_moved rate s (suc i) (x ∷ xs))

-- a table's words after a symbol, one by one
moved_at : (r s : ℕ) (vs : List ℕ) (from i : ℕ) → i < length vs → get_or (moved_from r s from vs) i 0 ≡ cond (eqb (i + 1) (length vs)) (counted (get_or vs i 0)) (moved r (ltb (from + i) s) (get_or vs i 0))
moved_at r s [] from i h = absurd (omega arith)
moved_at r s (c ∷ []) from zero h = refl
moved_at r s (c ∷ []) from (suc i) h = absurd (omega arith)
moved_at r s (v ∷ x ∷ xs) from zero h =
    ap (λ k. moved r (ltb k s) v) here ∙ sym (ap (λ b. cond b (counted v) (moved r (ltb (from + 0) s) v)) (not-T→false (eqb 1 (suc (suc (length xs)))) (λ t. let e : 1 ≡ suc (suc (length xs)) = eqb→eq 1 (suc (suc (length xs))) t in omega arith)))
  where
    here : from ≡ from + 0
    here = omega arith
moved_at r s (v ∷ x ∷ xs) from (suc i) h =
    moved_at r s (x ∷ xs) (suc from) i (omega arith)
    ∙ ap₂ (λ b k. cond b (counted (get_or (x ∷ xs) i 0)) (moved r (ltb k s) (get_or (x ∷ xs) i 0))) (same_eqb (i + 1) (suc (length xs)) (suc i + 1) (suc (suc (length xs))) (omega arith) (omega arith)) (next i)
  where
    next : (i : ℕ) → suc from + i ≡ from + suc i
    next i = omega arith

    same_eqb : (a b c d : ℕ) → c ≡ suc a → d ≡ suc b → eqb a b ≡ eqb c d
    same_eqb a b c d p q = same_test (eqb a b) (eqb c d)
        (λ t. let e : a ≡ b = eqb→eq a b t in let f : d ≡ c = omega arith in subst (λ z. T (eqb c z)) (sym f) (eqb_refl c))
        (λ t. let e : c ≡ d = eqb→eq c d t in let f : b ≡ a = omega arith in subst (λ z. T (eqb a z)) (sym f) (eqb_refl a))

-- so each word of the adapted table
pub adapted_at : (vs : List ℕ) (s i : ℕ) → i < length vs
    → get_or (adapted (length vs) vs s) i 0
    ≡ cond (eqb (i + 1) (length vs)) (counted (get_or vs i 0)) (moved (rate (length vs) (get_or vs (length vs - 1) 0)) (ltb i s) (get_or vs i 0))
adapted_at vs s i h =
    moved_at (rate (length vs) (get_or vs (length vs - 1) 0)) s vs 0 i h
    ∙ ap (λ k. cond (eqb (i + 1) (length vs)) (counted (get_or vs i 0)) (moved (rate (length vs) (get_or vs (length vs - 1) 0)) (ltb k s) (get_or vs i 0))) zero_add
  where
    zero_add : 0 + i ≡ i
    zero_add = omega arith

-- a table of which each value is moved and the counter set is the adapted one
pub adapted_by : (s : ℕ) (t u : List ℕ) (w : ℕ) → 0 < length t → length u ≡ length t
    → ((k : ℕ) → k < length t - 1 → get_or u k 0 ≡ moved (rate (length t) (get_or t (length t - 1) 0)) (ltb k s) (get_or t k 0))
    → w ≡ counted (get_or t (length t - 1) 0)
    → set u (length t - 1) w ≡ adapted (length t) t s
adapted_by s t u w some len body top =
    ext_get_or 0 (set u (length t - 1) w) (adapted (length t) t s) (length-set u (length t - 1) w ∙ len ∙ sym (length_moved r s 0 t)) at
  where
    r : ℕ
    r = rate (length t) (get_or t (length t - 1) 0)

    one : (k : ℕ) → k < length t → Dec (k + 1 ≡ length t) → get_or (set u (length t - 1) w) k 0 ≡ cond (eqb (k + 1) (length t)) (counted (get_or t k 0)) (moved r (ltb k s) (get_or t k 0))
    one k h (yes e) =
        ap (λ x. get_or (set u (length t - 1) w) x 0) last ∙ get_or-set_same u (length t - 1) w 0 (omega arith) ∙ top ∙ ap (λ x. counted (get_or t x 0)) (sym last)
        ∙ sym (ap (λ b. cond b (counted (get_or t k 0)) (moved r (ltb k s) (get_or t k 0))) (T→true (eqb (k + 1) (length t)) (subst (λ x. T (eqb (k + 1) x)) e (eqb_refl (k + 1)))))
      where
        last : k ≡ length t - 1
        last = omega arith
    one k h (no e) =
        get_or-set_other u (length t - 1) k w 0 (omega arith) ∙ body k (omega arith)
        ∙ sym (ap (λ b. cond b (counted (get_or t k 0)) (moved r (ltb k s) (get_or t k 0))) (not-T→false (eqb (k + 1) (length t)) (λ x. e (eqb→eq (k + 1) (length t) x))))

    at : (k : ℕ) → k < length (set u (length t - 1) w) → get_or (set u (length t - 1) w) k 0 ≡ get_or (adapted (length t) t s) k 0
    at k h =
        let l : length (set u (length t - 1) w) ≡ length u = length-set u (length t - 1) w in
        let m : k < length t = omega (arith, l, len) in
        one k m (ℕ_discrete (k + 1) (length t)) ∙ sym (adapted_at t s k m)

-- each word moved, and then the counter set, which is at place m
moved_by : (r s i m w : ℕ) (ts us : List ℕ) → m + 1 ≡ length ts → length us ≡ length ts → w ≡ counted (get_or ts m 0)
    → ((k : ℕ) → k < length ts → get_or us k 0 ≡ moved r (ltb (i + k) s) (get_or ts k 0))
    → set us m w ≡ moved_from r s i ts
moved_by r s i m w [] us end long last body = absurd (omega arith)
moved_by r s i m w (v ∷ vs) [] end long last body = absurd (omega arith)
moved_by r s i zero w (c ∷ []) (u ∷ []) end long last body = ap (λ x. x ∷ []) last
moved_by r s i zero w (c ∷ []) (u ∷ x ∷ us) end long last body = absurd (omega arith)
moved_by r s i zero w (v ∷ x ∷ vs) (u ∷ us) end long last body = absurd (omega arith)
moved_by r s i (suc m) w (c ∷ []) (u ∷ us) end long last body = absurd (omega arith)
moved_by r s i (suc m) w (v ∷ x ∷ vs) (u ∷ us) end long last body =
    ap₂ ◌∷◌ first (moved_by r s (suc i) m w (x ∷ vs) us (omega arith) (omega arith) last (λ k h. next k h))
  where
    first : u ≡ moved r (ltb i s) v
    first = body 0 (omega arith) ∙ ap (λ n. moved r (ltb n s) v) (add-zero i)

    next : (k : ℕ) → k < length (x ∷ vs) → get_or us k 0 ≡ moved r (ltb (suc i + k) s) (get_or (x ∷ vs) k 0)
    next k h = let e : i + suc k ≡ suc i + k = omega arith in body (suc k) (omega arith) ∙ ap (λ n. moved r (ltb n s) (get_or (x ∷ vs) k 0)) e

-- so a table becomes the adapted one
pub adapts : (t us : List ℕ) (s c w r : ℕ) → 0 < length t → c ≡ get_or t (length t - 1) 0 → w ≡ counted c → r ≡ rate (length t) c → length us ≡ length t
    → ((k : ℕ) → k < length t → get_or us k 0 ≡ moved r (ltb k s) (get_or t k 0))
    → set us (length t - 1) w ≡ adapted (length t) t s
adapts t us s c w r some is counter by long body =
    moved_by r s 0 (length t - 1) w t us (omega arith) long (counter ∙ ap counted is) (λ k h. body k h ∙ ap (λ n. moved r (ltb n s) (get_or t k 0)) (sym (zero-add k)))
    ∙ ap (λ x. moved_from x s 0 t) (by ∙ ap (rate (length t)) is)

pub stays_lawful : (t ws : List ℕ) (s : ℕ) → ws ≡ adapted (length t) t s → LawfulTable t → LawfulTable ws
stays_lawful t ws s words h = subst LawfulTable (sym words) (table_stays_lawful (length t) t s h)
