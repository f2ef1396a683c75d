-- Packed bytes gone back over: the last byte of each number, and no other, is below 128.
use Rattle.std.proofs.Common.{◌≡◌, ℕ, ◌+◌, ◌-◌, ◌*◌, ◌/◌, ◌%◌, ◌<◌, ◌≤◌, Bool, true, false, ltb, cond, List, [], ◌∷◌, ◌++◌, length, take, get_or, sym, refl, ap, ◌∙◌, ⊎_elim, arith}
use Rattle.std.specs.List.{list_all, count_by}
use Rattle.std.proofs.lemmas.Bool.{cases_lt, lt-ltb, le-ltb, and_parts}
use Rattle.std.proofs.lemmas.List.{append-nil, length-append, length_push, length-take-le, take_all, take-take, take_at, get_or-append_right, get_or-take, get_or_push}
use Rattle.std.proofs.lemmas.List.Sums.{sum_by-append, sum_by-take-le, count_by_more_yes}
use Rattle.cdf.specs.declared.entry.Entry.{Entry}
use Rattle.cdf.specs.Entries.{is_entry}
use Rattle.packed.specs.Laws.{small, short, entry_least}
use Rattle.packed.specs.Packing.{groups, packed_entry, packed, unpacked, BeginsAt, Whole}
use Rattle.packed.proofs.Unpacking.{Holds}
use Rattle.packed.proofs.Records.{here_front, here_within, all_take, cut_holds}

abbrev pub is_last : ℕ → Bool
is_last b = ltb b 128

-- how many numbers end in some bytes
abbrev pub lasts : List ℕ → ℕ
lasts bs = count_by is_last bs

lasts_append : (xs ys : List ℕ) → lasts (xs ++ ys) ≡ lasts xs + lasts ys
lasts_append xs ys = sum_by-append (λ b. cond (is_last b) 1 0) xs ys

-- a number ends once, with its last byte
record EndsOnce (n : ℕ) : Type 0 where
  once : lasts (groups n) ≡ 1
  last : get_or (groups n) (length (groups n) - 1) 0 < 128

ends_once : (n : ℕ) → n < 65536 → EndsOnce n
ends_once n h = ⊎_elim
    (λ low. let a = lt-ltb n 128 low in record { once = simp a; last = simp a low })
    (λ big. let a = le-ltb n 128 big in
    let b : ltb (128 + n % 128) 128 ≡ false = le-ltb (128 + n % 128) 128 (omega arith) in
    ⊎_elim
    (λ mid. let c = lt-ltb n 16384 mid in
    let y : n / 128 < 128 = omega arith in
    let d = lt-ltb (n / 128) 128 y in
    record { once = simp (a, b, c, d); last = simp (a, c) y })
    (λ far. let c = le-ltb n 16384 far in
    let d : ltb (128 + (n / 128) % 128) 128 ≡ false = le-ltb (128 + (n / 128) % 128) 128 (omega arith) in
    let z : n / 16384 < 128 = omega arith in
    let f = lt-ltb (n / 16384) 128 z in
    record { once = simp (a, b, c, d, f); last = simp (a, c) z })
    (cases_lt n 16384))
    (cases_lt n 128)

lasts_entry : (e : Entry) → is_entry e ≡ true → lasts (packed_entry e) ≡ 4
lasts_entry e h =
    let k = small e h in
    let a = lasts_append (groups e.s) (groups e.n ++ (groups e.fl ++ groups e.fh)) in
    let b = lasts_append (groups e.n) (groups e.fl ++ groups e.fh) in
    let d = lasts_append (groups e.fl) (groups e.fh) in
    omega (arith, a, b, d, (ends_once e.s (omega (arith, k.s))).once, (ends_once e.n (omega (arith, k.n))).once, (ends_once e.fl k.fl).once, (ends_once e.fh k.fh).once)

pub lasts_packed : (l : List Entry) → list_all is_entry l ≡ true → lasts (packed l) ≡ 4 * length l
lasts_packed [] h = refl
lasts_packed (e ∷ l) h =
    let p = and_parts (is_entry e) (list_all is_entry l) h in
    omega (arith, lasts_append (packed_entry e) (packed l), lasts_entry e p.0, lasts_packed l p.1)

-- the last byte
abbrev last_of : List ℕ → ℕ
last_of bs = get_or bs (length bs - 1) 0

last_append : (xs ys : List ℕ) → 0 < length ys → last_of (xs ++ ys) ≡ last_of ys
last_append xs ys more =
    let long = length-append xs ys in
    let at : length xs ≤ length (xs ++ ys) - 1 = omega (arith, long) in
    let same : (length (xs ++ ys) - 1) - length xs ≡ length ys - 1 = omega (arith, long) in
    get_or-append_right xs ys (length xs) (length (xs ++ ys) - 1) 0 refl at ∙ ap (λ i. get_or ys i 0) same

last_entry : (e : Entry) → is_entry e ≡ true → last_of (packed_entry e) < 128
last_entry e h =
    let k = small e h in
    let fh = last_append (groups e.fl) (groups e.fh) (omega (arith, (short e.fh).least)) in
    let a : 0 < length (groups e.fl ++ groups e.fh) = omega (arith, length-append (groups e.fl) (groups e.fh), (short e.fh).least) in
    let fl = last_append (groups e.n) (groups e.fl ++ groups e.fh) a in
    let b : 0 < length (groups e.n ++ (groups e.fl ++ groups e.fh)) = omega (arith, length-append (groups e.n) (groups e.fl ++ groups e.fh), a) in
    let n = last_append (groups e.s) (groups e.n ++ (groups e.fl ++ groups e.fh)) b in
    omega (arith, n, fl, fh, (ends_once e.fh k.fh).last)

last_packed : (l : List Entry) → list_all is_entry l ≡ true → 0 < length l → last_of (packed l) < 128
last_packed [] h more = absurd (omega arith)
last_packed (e ∷ []) h more = let p = and_parts (is_entry e) true h in rw (append-nil (packed_entry e)) (last_entry e p.0)
last_packed (e ∷ d ∷ l) h more =
    let p = and_parts (is_entry e) (list_all is_entry (d ∷ l)) h in
    let some : 0 < length (packed (d ∷ l)) = omega (arith, length-append (packed_entry d) (packed l), entry_least d) in
    let same = last_append (packed_entry e) (packed (d ∷ l)) some in
    omega (arith, same, last_packed (d ∷ l) p.1 (omega arith))

-- numbers that end before a byte
fewer_before : (bs : List ℕ) (m n : ℕ) → m ≤ n → lasts (take m bs) ≤ lasts (take n bs)
fewer_before bs m n h = rw (← take-take m n bs h) (sum_by-take-le (λ b. cond (is_last b) 1 0) (take n bs) m)

one_before : (bs : List ℕ) (m n : ℕ) → m < n → n ≤ length bs → get_or bs (n - 1) 0 < 128 → lasts (take m bs) < lasts (take n bs)
one_before bs m n h within last =
    let yes = count_by_more_yes is_last bs (n - 1) 0 (omega arith) (lt-ltb (get_or bs (n - 1) 0) 128 last) in
    let back : (n - 1) + 1 ≡ n = omega arith in
    let all = ap (λ k. lasts (take k bs)) back in
    omega (arith, yes, all, fewer_before bs m (n - 1) (omega arith))

-- some bytes are gone over, from the end
pub record Backwards (bs front : List ℕ) (p numbers : ℕ) : Type 0 where
  pub prefix : front ≡ take (length front) bs
  pub within : length front ≤ length bs
  pub left : lasts front ≡ 4 * p + numbers

pub from_the_end : (bs : List ℕ) (n : ℕ) → Whole bs → n ≤ length (unpacked bs) → Backwards bs bs (length (unpacked bs) - n) (4 * n)
from_the_end bs n w h =
    let all : lasts bs ≡ 4 * length (unpacked bs) = ap lasts (sym w.packs) ∙ lasts_packed (unpacked bs) w.entries in
    record { prefix = sym (take_all (length bs) bs (omega arith)); within = omega arith; left = omega (arith, all) }

front_less : (bs front rest : List ℕ) (b : ℕ) → front ≡ take (length front) bs → front ≡ rest ++ b ∷ [] → rest ≡ take (length rest) bs
front_less bs front rest b h p =
    let long : length rest ≤ length front = omega (arith, ap length p, length_push rest b) in
    sym (take_at rest (b ∷ []) (length rest) refl) ∙ ap (take (length rest)) (sym p ∙ h) ∙ take-take (length rest) (length front) bs long

lasts_one : (b : ℕ) → b < 128 → lasts (b ∷ []) ≡ 1
lasts_one b h = let a = lt-ltb b 128 h in simp a

lasts_none : (b : ℕ) → 128 ≤ b → lasts (b ∷ []) ≡ 0
lasts_none b h = let a = le-ltb b 128 h in simp a

pub over_a_last : (bs front rest : List ℕ) (b p numbers : ℕ) → Backwards bs front p numbers → front ≡ rest ++ b ∷ [] → b < 128 → 0 < numbers → Backwards bs rest p (numbers - 1)
over_a_last bs front rest b p numbers x e h more =
    record {
      prefix = front_less bs front rest b x.prefix e;
      within = omega (arith, ap length e, length_push rest b, x.within);
      left = omega (arith, x.left, ap lasts e, lasts_append rest (b ∷ []), lasts_one b h);
    }

pub over_another : (bs front rest : List ℕ) (b p numbers : ℕ) → Backwards bs front p numbers → front ≡ rest ++ b ∷ [] → 128 ≤ b → Backwards bs rest p numbers
over_another bs front rest b p numbers x e h =
    record {
      prefix = front_less bs front rest b x.prefix e;
      within = omega (arith, ap length e, length_push rest b, x.within);
      left = omega (arith, x.left, ap lasts e, lasts_append rest (b ∷ []), lasts_none b h);
    }

-- the byte behind a number's last, with the same numbers before it, is where they end
same_place : (bs : List ℕ) (p at : ℕ) → Whole bs → p ≤ length (unpacked bs) → 0 < at → at ≤ length bs → get_or bs (at - 1) 0 < 128 → lasts (take at bs) ≡ 4 * p → BeginsAt bs p at
same_place bs p at w le some within last left =
    let l = unpacked bs in
    let x = length (packed (take p l)) in
    let here : BeginsAt bs p x = record { inside = le; start = refl } in
    let front = here_front bs p x w here in
    let x_within = here_within bs p x w here in
    let entries = all_take l p w.entries in
    let x_left : lasts (take x bs) ≡ 4 * p = ap lasts front ∙ lasts_packed (take p l) entries ∙ ap (λ n. 4 * n) (length-take-le p l le) in
    let not_later : x < at → ⊥ = λ (h : x < at). let m = one_before bs x at h within last in omega (arith, m, left, x_left) in
    let not_sooner : at < x → ⊥ = λ (h : at < x).
    let p_some : 0 < p = ⊎_elim (λ (y : 0 < p). y) (λ (z : p ≤ 0). let none : p ≡ 0 = omega arith in let nothing : x ≡ 0 = ap (λ k. length (packed (take k l))) none in absurd (omega (arith, nothing))) (cases_lt 0 p) in
    let l_some : 0 < length (take p l) = omega (arith, length-take-le p l le) in
    let x_last : last_of (take x bs) < 128 = rw front (last_packed (take p l) entries l_some) in
    let long = length-take-le x bs x_within in
    let byte : last_of (take x bs) ≡ get_or bs (x - 1) 0 = ap (λ k. get_or (take x bs) (k - 1) 0) long ∙ get_or-take x bs (x - 1) 0 (omega arith) in
    let m = one_before bs at x h x_within (omega (arith, byte, x_last)) in
    omega (arith, m, left, x_left) in
    record {
      inside = le;
      start = ⊎_elim (λ (h : at < x). absurd (not_sooner h)) (λ (h : x ≤ at). ⊎_elim (λ (k : x < at). absurd (not_later k)) (λ (k : at ≤ x). let e : at ≡ x = omega arith in e) (cases_lt x at)) (cases_lt at x);
    }

pub stop_at_a_last : (bs front rest : List ℕ) (b n numbers : ℕ) → Whole bs → n ≤ length (unpacked bs) → Backwards bs front (length (unpacked bs) - n) numbers → numbers ≡ 0 → front ≡ rest ++ b ∷ [] → b < 128 → BeginsAt bs (length (unpacked bs) - n) (length front)
stop_at_a_last bs front rest b n numbers w le x none e h =
    let p = length (unpacked bs) - n in
    let long = ap length e ∙ length_push rest b in
    let some : 0 < length front = omega (arith, long) in
    let byte : get_or bs (length front - 1) 0 ≡ b =
    sym (get_or-take (length front) bs (length front - 1) 0 (omega arith)) ∙ ap (λ m. get_or m (length front - 1) 0) (sym x.prefix ∙ e) ∙ get_or_push rest b 0 (length front - 1) (omega (arith, long)) in
    let left : lasts (take (length front) bs) ≡ 4 * p = ap lasts (sym x.prefix) ∙ omega (arith, x.left, none) in
    same_place bs p (length front) w (omega arith) some x.within (omega (arith, byte, h)) left

pub stop_at_the_front : (bs : List ℕ) (n numbers : ℕ) → Backwards bs [] (length (unpacked bs) - n) numbers → BeginsAt bs (length (unpacked bs) - n) 0
stop_at_the_front bs n numbers x =
    let none : length (unpacked bs) - n ≡ 0 = omega (arith, x.left) in
    record { inside = omega arith; start = sym (ap (λ k. length (packed (take k (unpacked bs)))) none) }

-- the entries before a byte are the first ones of all
pub before_here : (bs : List ℕ) (i at : ℕ) → Whole bs → BeginsAt bs i at → Holds (take at bs) (take i (unpacked bs))
before_here bs i at w h = cut_holds bs (take at bs) i at w h refl

pub counted_before : (bs : List ℕ) (i at : ℕ) → Whole bs → BeginsAt bs i at → length (unpacked (take at bs)) ≡ i
counted_before bs i at w h = ap length (before_here bs i at w h).list ∙ length-take-le i (unpacked bs) h.inside

pub back_begins : (bs : List ℕ) (i at p to : ℕ) → Whole bs → BeginsAt bs i at → p ≤ i → BeginsAt (take at bs) (length (unpacked (take at bs)) - (i - p)) to → BeginsAt bs p to
back_begins bs i at p to w h le x =
    let l = unpacked bs in
    let index : length (unpacked (take at bs)) - (i - p) ≡ p = omega (arith, counted_before bs i at w h) in
    record {
      inside = omega (arith, h.inside);
      start = x.start ∙ ap (λ k. length (packed (take k (unpacked (take at bs))))) index ∙ ap (λ m. length (packed (take p m))) (before_here bs i at w h).list ∙ ap (λ m. length (packed m)) (take-take p i l le);
    }
