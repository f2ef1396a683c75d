-- The packed record.
use Rattle.std.proofs.Common.{◌≡◌, ℕ, zero, suc, ◌+◌, ◌-◌, ◌<◌, ◌≤◌, true, false, leb, cond, Option, Some, None, Ok, Err, List, [], ◌∷◌, ◌++◌, length, take, drop, get_or, sym, refl, ap, ◌∙◌, ⊎_elim, arith, add-zero}
use Rattle.std.specs.List.{list_all}
use Rattle.std.proofs.lemmas.Bool.{cases_lt, lt-ltb, le-ltb, le-leb, lt-leb, leb-true, and_parts, both_ways, true_from_ne_false}
use Rattle.std.proofs.lemmas.List.{length-append, length-drop, take-append-drop, drop_more, get_or-drop, take_rest}
use Rattle.std.proofs.lemmas.List.Folds.{list_all-append, list_all_at}
use Rattle.std.proofs.lemmas.Option.{cond_some}
use Rattle.av1.specs.declared.refusal.Refusal.TheVariants as no
use Rattle.cdf.specs.declared.entry.Entry.{Entry}
use Rattle.cdf.specs.Entries.{is_entry, entry_fits}
use Rattle.record.specs.Sinks.{no_entry, entry_answer, put_list, cut_list}
use Rattle.record.specs.Sources.{next_answer, next_place}
use Rattle.record.specs.declared.source.SourceFault.TheVariants as fault
use Rattle.packed.specs.Packing.{packed_entry, packed, unpacked, ends_from, BeginsAt, NoEntry, Whole}
use Rattle.packed.proofs.Unpacking.{unpacked_entry, unpacked_packed, packed_more, packed_within, take_packed, drop_packed, holds, Holds}
use Rattle.packed.specs.Laws.{packed_push}
use Rattle.packed.proofs.Checking.{all_push}

-- the ends of entries
pub length-ends : (at : ℕ) (l : List Entry) → length (ends_from at l) ≡ length l
length-ends at [] = refl
length-ends at (e ∷ l) = ap suc (length-ends (at + length (packed_entry e)) l)

pub take-ends : (n at : ℕ) (l : List Entry) → take n (ends_from at l) ≡ ends_from at (take n l)
take-ends zero at l = refl
take-ends (suc n) at [] = refl
take-ends (suc n) at (e ∷ l) = ap (λ m. (at + length (packed_entry e)) ∷ m) (take-ends n (at + length (packed_entry e)) l)

pub ends_push : (at : ℕ) (l : List Entry) (e : Entry) → ends_from at (l ++ e ∷ []) ≡ ends_from at l ++ (at + (length (packed l) + length (packed_entry e))) ∷ []
ends_push at [] e = ap (λ n. n ∷ []) (omega arith)
ends_push at (d ∷ l) e =
    let same : (at + length (packed_entry d)) + (length (packed l) + length (packed_entry e)) ≡ at + (length (packed (d ∷ l)) + length (packed_entry e)) = omega (arith, length-append (packed_entry d) (packed l)) in
    ap (λ m. (at + length (packed_entry d)) ∷ m) (ends_push (at + length (packed_entry d)) l e ∙ ap (λ n. ends_from (at + length (packed_entry d)) l ++ n ∷ []) same)

pub ends_at : (at : ℕ) (l : List Entry) (i : ℕ) → i < length l → get_or (ends_from at l) i 0 ≡ at + length (packed (take (suc i) l))
ends_at at [] i h = absurd (omega arith)
ends_at at (e ∷ l) zero h = omega (arith, length-append (packed_entry e) [])
ends_at at (e ∷ l) (suc i) h =
    let more = ends_at (at + length (packed_entry e)) l i (omega arith) in
    more ∙ omega (arith, length-append (packed_entry e) (packed (take (suc i) l)))

-- where the first n entries end, by the list of ends
abbrev pub end_of : List Entry → ℕ → Option ℕ
end_of l n = cond (leb n (length l)) (Some (length (packed (take n l)))) None

pub end_at_0 : (l : List Entry) (n : ℕ) → n ≡ 0 → Some 0 ≡ end_of l n
end_at_0 l n e = let a : leb 0 (length l) ≡ true = le-leb 0 (length l) (omega arith) in rw e (simp a)

pub end_past : (l : List Entry) (n : ℕ) → length l < n → None ≡ end_of l n
end_past l n h = let a = lt-leb n (length l) h in simp a

pub end_there : (l : List Entry) (ends : List ℕ) (n last x : ℕ) → ends ≡ ends_from 0 l → n ≡ suc last → last < length l → x ≡ get_or ends last 0 → Some x ≡ end_of l n
end_there l ends n last x p e h q =
    let a = le-leb (suc last) (length l) h in
    let at : x ≡ length (packed (take (suc last) l)) = omega (arith, q, ap (λ m. get_or m last 0) p, ends_at 0 l last h) in
    rw e (simp a (ap Some at))

pub here_from_end : (bs : List ℕ) (i at : ℕ) → Some at ≡ end_of (unpacked bs) i → BeginsAt bs i at
here_from_end bs i at p =
    let q = cond_some (leb i (length (unpacked bs))) (length (packed (take i (unpacked bs)))) at (sym p) in
    record { inside = leb-true i (length (unpacked bs)) q.0; start = sym q.1 }

pub here_within : (bs : List ℕ) (i at : ℕ) → Whole bs → BeginsAt bs i at → at ≤ length bs
here_within bs i at w h = omega (arith, h.start, packed_within (unpacked bs) i, ap length w.packs)

pub here_rest : (bs : List ℕ) (i at : ℕ) → Whole bs → BeginsAt bs i at → drop at bs ≡ packed (drop i (unpacked bs))
here_rest bs i at w h =
    ap (drop at) (sym w.packs) ∙ ap (λ n. drop n (packed (unpacked bs))) h.start ∙ drop_packed i (unpacked bs)

pub here_front : (bs : List ℕ) (i at : ℕ) → Whole bs → BeginsAt bs i at → take at bs ≡ packed (take i (unpacked bs))
here_front bs i at w h =
    ap (take at) (sym w.packs) ∙ ap (λ n. take n (packed (unpacked bs))) h.start ∙ take_packed i (unpacked bs)

-- each of them is an entry
one_of : (l : List Entry) (i : ℕ) → list_all is_entry l ≡ true → i < length l → is_entry (get_or l i no_entry) ≡ true
one_of l i h lt = true_from_ne_false (is_entry (get_or l i no_entry)) (λ f. both_ways (list_all is_entry l) (list_all_at is_entry l i no_entry lt f) h)

pub all_take : (l : List Entry) (i : ℕ) → list_all is_entry l ≡ true → list_all is_entry (take i l) ≡ true
all_take l i h = (and_parts (list_all is_entry (take i l)) (list_all is_entry (drop i l)) (sym (list_all-append is_entry (take i l) (drop i l)) ∙ ap (list_all is_entry) (take-append-drop i l) ∙ h)).0

all_drop : (l : List Entry) (i : ℕ) → list_all is_entry l ≡ true → list_all is_entry (drop i l) ≡ true
all_drop l i h = (and_parts (list_all is_entry (take i l)) (list_all is_entry (drop i l)) (sym (list_all-append is_entry (take i l) (drop i l)) ∙ ap (list_all is_entry) (take-append-drop i l) ∙ h)).1

-- where no entry is found, the entries end
pub none_here : (bs : List ℕ) (i at : ℕ) → Whole bs → BeginsAt bs i at → NoEntry (drop at bs) → length (unpacked bs) ≤ i
none_here bs i at w h none =
    let l = unpacked bs in
    ⊎_elim
    (λ lt. absurd (none (get_or l i no_entry) (packed (drop (i + 1) l)) (one_of l i w.entries lt) (here_rest bs i at w h ∙ ap packed (drop_more l i no_entry lt))))
    (λ le. le)
    (cases_lt i (length l))

-- where an entry is found, it is entry i, and entry i + 1 begins behind it
pub record Found (bs : List ℕ) (i at : ℕ) (e : Entry) : Type 0 where
  pub inside : i < length (unpacked bs)
  pub same : get_or (unpacked bs) i no_entry ≡ e
  pub next : BeginsAt bs (i + 1) (at + length (packed_entry e))

pub found_here : (bs rest : List ℕ) (i at : ℕ) (e : Entry) → Whole bs → BeginsAt bs i at → is_entry e ≡ true → drop at bs ≡ packed_entry e ++ rest → Found bs i at e
found_here bs rest i at e w h ok p =
    let l = unpacked bs in
    let split : drop i l ≡ e ∷ unpacked rest = sym (unpacked_packed (drop i l) (all_drop l i w.entries)) ∙ ap unpacked (sym (here_rest bs i at w h) ∙ p) ∙ unpacked_entry e rest ok in
    let lt : i < length l = omega (arith, ap length split, length-drop i l) in
    let same : get_or l i no_entry ≡ e = ap (λ k. get_or l k no_entry) (sym (add-zero i)) ∙ sym (get_or-drop i l 0 no_entry) ∙ ap (λ m. get_or m 0 no_entry) split in
    let more = ap length (packed_more l i no_entry lt) ∙ length-append (packed (take i l)) (packed_entry (get_or l i no_entry)) in
    let size : length (packed_entry (get_or l i no_entry)) ≡ length (packed_entry e) = ap (λ x. length (packed_entry x)) same in
    record { inside = lt; same = same; next = record { inside = omega arith; start = omega (arith, h.start, more, size) } }

pub no_answer : (bs : List ℕ) (i at : ℕ) → Whole bs → BeginsAt bs i at → NoEntry (drop at bs) → Err no.NoSuchEntry ≡ entry_answer (unpacked bs) i
no_answer bs i at w h none = let a = le-ltb i (length (unpacked bs)) (none_here bs i at w h none) in simp a

pub an_answer : (bs rest : List ℕ) (i at : ℕ) (e : Entry) → Whole bs → BeginsAt bs i at → is_entry e ≡ true → drop at bs ≡ packed_entry e ++ rest → Ok e ≡ entry_answer (unpacked bs) i
an_answer bs rest i at e w h ok p =
    let f = found_here bs rest i at e w h ok p in
    let a = lt-ltb i (length (unpacked bs)) f.inside in
    simp a (ap Ok (sym f.same))

-- a put, and a cut
pub put_holds : (bs cs : List ℕ) (e : Entry) → Whole bs → is_entry e ≡ true → cs ≡ bs ++ packed_entry e → Holds cs (unpacked bs ++ e ∷ [])
put_holds bs cs e w h p =
    holds cs (unpacked bs ++ e ∷ []) (all_push (unpacked bs) e w.entries h) (p ∙ ap (λ x. x ++ packed_entry e) (sym w.packs) ∙ sym (packed_push (unpacked bs) e))

pub put_ends : (bs cs ends : List ℕ) (e : Entry) → Whole bs → is_entry e ≡ true → cs ≡ bs ++ packed_entry e → ends ≡ ends_from 0 (unpacked bs) → ends ++ length cs ∷ [] ≡ ends_from 0 (unpacked cs)
put_ends bs cs ends e w h p q =
    let all : length cs ≡ 0 + (length (packed (unpacked bs)) + length (packed_entry e)) = omega (arith, ap length p, length-append bs (packed_entry e), ap length w.packs) in
    let list = (put_holds bs cs e w h p).list in
    ap (λ x. x ++ length cs ∷ []) q ∙ ap (λ n. ends_from 0 (unpacked bs) ++ n ∷ []) all ∙ sym (ends_push 0 (unpacked bs) e) ∙ ap (ends_from 0) (sym list)

pub cut_holds : (bs cs : List ℕ) (n at : ℕ) → Whole bs → BeginsAt bs n at → cs ≡ take at bs → Holds cs (take n (unpacked bs))
cut_holds bs cs n at w h p = holds cs (take n (unpacked bs)) (all_take (unpacked bs) n w.entries) (p ∙ here_front bs n at w h)

pub cut_ends : (bs cs ends : List ℕ) (n at : ℕ) → Whole bs → BeginsAt bs n at → cs ≡ take at bs → ends ≡ ends_from 0 (unpacked bs) → take n ends ≡ ends_from 0 (unpacked cs)
cut_ends bs cs ends n at w h p q = ap (take n) q ∙ take-ends n 0 (unpacked bs) ∙ ap (ends_from 0) (sym (cut_holds bs cs n at w h p).list)

-- what a source answers where an entry is found, and where none is
pub next_none : (bs table : List ℕ) (i at : ℕ) → Whole bs → BeginsAt bs i at → NoEntry (drop at bs) → (Err (fault.NoNextEntry i) ≡ next_answer (unpacked bs) i table) × (i ≡ next_place (unpacked bs) i table)
next_none bs table i at w h none = let a = le-ltb i (length (unpacked bs)) (none_here bs i at w h none) in (simp a, simp a)

pub next_unfit : (bs rest table : List ℕ) (i at : ℕ) (e : Entry) → Whole bs → BeginsAt bs i at → is_entry e ≡ true → drop at bs ≡ packed_entry e ++ rest → entry_fits table e ≡ false → (Err (fault.EntryUnfit i) ≡ next_answer (unpacked bs) i table) × (i ≡ next_place (unpacked bs) i table)
next_unfit bs rest table i at e w h ok p n =
    let f = found_here bs rest i at e w h ok p in
    let a = lt-ltb i (length (unpacked bs)) f.inside in
    (rw (a, f.same, n), rw (a, f.same, n))

pub next_fits : (bs rest table : List ℕ) (i at : ℕ) (e : Entry) → Whole bs → BeginsAt bs i at → is_entry e ≡ true → drop at bs ≡ packed_entry e ++ rest → entry_fits table e ≡ true → (Ok e.s ≡ next_answer (unpacked bs) i table) × (i + 1 ≡ next_place (unpacked bs) i table)
next_fits bs rest table i at e w h ok p y =
    let f = found_here bs rest i at e w h ok p in
    let a = lt-ltb i (length (unpacked bs)) f.inside in
    (rw (a, f.same, y), rw (a, f.same, y))

-- where the next entry begins, by what is left behind this one
pub next_begins : (bs rest : List ℕ) (i at : ℕ) (e : Entry) → Whole bs → BeginsAt bs i at → is_entry e ≡ true → drop at bs ≡ packed_entry e ++ rest → BeginsAt bs (i + 1) (length bs - length rest)
next_begins bs rest i at e w h ok p =
    let f = found_here bs rest i at e w h ok p in
    let size : at + length (packed_entry e) ≡ length bs - length rest = omega (arith, ap length p, length-drop at bs, length-append (packed_entry e) rest, here_within bs i at w h) in
    rw (← size) f.next

pub put_list_is : (l : List Entry) (e : Entry) (room : ℕ) → is_entry e ≡ true → 0 < room → l ++ e ∷ [] ≡ put_list e room l
put_list_is l e room h free = let a = lt-ltb 0 room free in simp (h, a)

pub cut_list_is : (l : List Entry) (n : ℕ) → n ≤ length l → take n l ≡ cut_list l n
cut_list_is l n h = let a = le-leb n (length l) h in simp a

-- the part of a slice from a byte on
pub part_rest : (bs cs : List ℕ) (at : ℕ) → cs ≡ bs → take (length cs - at) (drop at cs) ≡ drop at bs
part_rest bs cs at p = take_rest cs at ∙ ap (drop at) p
