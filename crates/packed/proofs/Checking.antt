-- Bytes that are gone through entry by entry.
use Rattle.std.proofs.Common.{◌≡◌, ℕ, ◌+◌, ◌-◌, ◌*◌, ◌<◌, ◌≤◌, true, List, [], ◌∷◌, ◌++◌, length, take, drop, sym, refl, ap, ◌∙◌, subst, ⊎_elim, arith}
use Rattle.std.specs.List.{list_all}
use Rattle.std.proofs.lemmas.Bool.{cases_lt, and_parts, and_from}
use Rattle.std.proofs.lemmas.List.{append-nil, append_assoc, append_cancel_left, length-append, length_push, length-drop, length-take-le, take-take, drop-append-le, take-append-drop, take_at, drop_at}
use Rattle.std.proofs.lemmas.List.Folds.{list_all-append}
use Rattle.cdf.specs.declared.entry.Entry.{Entry}
use Rattle.cdf.specs.Entries.{is_entry}
use Rattle.packed.specs.Packing.{packed_entry, packed, unpacked, NoEntry, Whole, FailsAt}
use Rattle.packed.proofs.Unpacking.{unpacked_append, holds}
use Rattle.packed.specs.Laws.{entry_least, packed_append, packed_push, packed_least}

-- some bytes are gone, and were entries
pub record Sofar (bs rest : List ℕ) (count : ℕ) : Type 0 where
  pub gone : List Entry
  pub entries : list_all is_entry gone ≡ true
  pub split : bs ≡ packed gone ++ rest
  pub counted : count ≡ length gone

pub none_yet : (bs : List ℕ) → Sofar bs bs 0
none_yet bs = record { gone = []; entries = refl; split = refl; counted = refl }

pub all_push : (l : List Entry) (e : Entry) → list_all is_entry l ≡ true → is_entry e ≡ true → list_all is_entry (l ++ e ∷ []) ≡ true
all_push l e hl he = list_all-append is_entry l (e ∷ []) ∙ and_from _ _ hl (and_from _ true he refl)

pub one_more : (bs rest behind : List ℕ) (count : ℕ) (e : Entry) → Sofar bs rest count → is_entry e ≡ true → rest ≡ packed_entry e ++ behind → Sofar bs behind (count + 1)
one_more bs rest behind count e x h p =
    record {
      gone = x.gone ++ e ∷ [];
      entries = all_push x.gone e x.entries h;
      split = x.split ∙ ap (λ r. packed x.gone ++ r) p ∙ sym (append_assoc (packed x.gone) (packed_entry e) behind) ∙ ap (λ r. r ++ behind) (sym (packed_push x.gone e));
      counted = omega (arith, x.counted, length_push x.gone e);
    }

-- an entry is gone, so fewer bytes are left
pub fewer : (rest behind : List ℕ) (e : Entry) → rest ≡ packed_entry e ++ behind → length behind < length rest
fewer rest behind e p = omega (arith, ap length p, length-append (packed_entry e) behind, entry_least e)

-- the count fits, since each entry took bytes
pub count_fits : (bs rest : List ℕ) (count : ℕ) → Sofar bs rest count → 4 * count + length rest ≤ length bs
count_fits bs rest count x = omega (arith, ap length x.split, length-append (packed x.gone) rest, packed_least x.gone, x.counted)

pub all_gone : (bs : List ℕ) (count : ℕ) → Sofar bs [] count → Whole bs × (count ≡ length (unpacked bs))
all_gone bs count x =
    let h = holds bs x.gone x.entries (x.split ∙ append-nil (packed x.gone)) in
    (h.whole, x.counted ∙ ap length (sym h.list))

pub fails : (bs rest : List ℕ) (count : ℕ) → Sofar bs rest count → 0 < length rest → NoEntry rest → FailsAt bs (length bs - length rest)
fails bs rest count x more none =
    let all = length-append (packed x.gone) rest in
    let at : length (packed x.gone) ≡ length bs - length rest = omega (arith, ap length x.split, all) in
    let front : take (length bs - length rest) bs ≡ packed x.gone = ap (take (length bs - length rest)) x.split ∙ take_at (packed x.gone) rest _ at in
    let back : drop (length bs - length rest) bs ≡ rest = ap (drop (length bs - length rest)) x.split ∙ drop_at (packed x.gone) rest _ at in
    record {
      inside = omega (arith, ap length x.split, all);
      before = (holds (take (length bs - length rest) bs) x.gone x.entries front).whole;
      none = subst NoEntry (sym back) none;
    }

no_entries_left : (bs : List ℕ) (l : List Entry) → 0 < length bs → list_all is_entry l ≡ true → NoEntry bs → bs ≡ packed l → ⊥
no_entries_left bs [] more h none p = omega (arith, ap length p)
no_entries_left bs (e ∷ l) more h none p = none e (packed l) (and_parts (is_entry e) (list_all is_entry l) h).0 p

-- packed entries never fail
pub packed_passes : (bs : List ℕ) (at : ℕ) (l : List Entry) → FailsAt bs at → list_all is_entry l ≡ true → bs ≡ packed l → ⊥
packed_passes bs at l x h p =
    let m = unpacked (take at bs) in
    let rest = drop at bs in
    let split : packed l ≡ packed m ++ rest = sym p ∙ sym (take-append-drop at bs) ∙ ap (λ r. r ++ rest) (sym x.before.packs) in
    let whole = holds bs l h p in
    let list : l ≡ m ++ unpacked rest = sym whole.list ∙ ap unpacked (p ∙ split) ∙ unpacked_append m rest x.before.entries in
    let same : rest ≡ packed (unpacked rest) = append_cancel_left (packed m) rest (packed (unpacked rest)) (sym split ∙ ap packed list ∙ packed_append m (unpacked rest)) in
    let each = and_parts (list_all is_entry m) (list_all is_entry (unpacked rest)) (sym (list_all-append is_entry m (unpacked rest)) ∙ sym (ap (list_all is_entry) list) ∙ h) in
    no_entries_left rest (unpacked rest) (simp length-drop (omega (arith, x.inside))) each.1 x.none same

pub whole_passes : (bs : List ℕ) (at : ℕ) → Whole bs → FailsAt bs at → ⊥
whole_passes bs at w x = packed_passes bs at (unpacked bs) x w.entries (sym w.packs)

-- no bytes fail at two places, since those before the later one are whole
no_later : (bs : List ℕ) (at other : ℕ) → FailsAt bs at → FailsAt bs other → at < other → ⊥
no_later bs at other x y h =
    let front = take other bs in
    let long : length front ≡ other = length-take-le other bs (omega (arith, y.inside)) in
    let rest : drop at bs ≡ drop at front ++ drop other bs = ap (drop at) (sym (take-append-drop other bs)) ∙ drop-append-le at front (drop other bs) (omega (arith, long)) in
    let same : take at front ≡ take at bs = take-take at other bs (omega (arith, h)) in
    let fails_too : FailsAt front at = record {
      inside = omega (arith, long);
      before = subst Whole (sym same) x.before;
      none = λ e r ok p. x.none e (r ++ drop other bs) ok (rest ∙ ap (λ m. m ++ drop other bs) p ∙ append_assoc (packed_entry e) r (drop other bs));
    } in
    whole_passes front at y.before fails_too

pub fails_once : (bs : List ℕ) (at other : ℕ) → FailsAt bs at → FailsAt bs other → at ≡ other
fails_once bs at other x y =
    ⊎_elim (λ h. absurd (no_later bs at other x y h))
    (λ h. ⊎_elim (λ k. absurd (no_later bs other at y x k)) (λ k. let e : at ≡ other = omega arith in e) (cases_lt other at))
    (cases_lt at other)
