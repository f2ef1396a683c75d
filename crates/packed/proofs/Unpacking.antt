-- Packed bytes read back: numbers, entries and lists of entries.
use Rattle.std.proofs.Common.{Bor, MatchOption, Some, Result, Ok, Err, ◌≡◌, ℕ, ◌+◌, ◌-◌, ◌*◌, ◌/◌, ◌%◌, ◌<◌, ◌≤◌, Bool, true, false, ltb, List, [], ◌∷◌, ◌++◌, length, take, drop, get_or, sym, refl, ap, ◌∙◌, ⊎_elim, arith}
use Rattle.std.specs.Bool.{then_some}
use Rattle.std.specs.List.{list_all}
use Rattle.std.specs.Result.{OkIff, result_ok}
use Rattle.std.proofs.lemmas.Bool.{cases_lt, lt-ltb, le-ltb, and_parts, both_ways}
use Rattle.std.proofs.lemmas.List.{append-nil, append_assoc, append_cancel_left, length-append, take-append-drop, take_at, drop_at, take_more}
use Rattle.cdf.specs.declared.entry.Entry.{Entry}
use Rattle.cdf.specs.Entries.{is_entry}
use Rattle.packed.specs.Laws.{small, packed_append, packed_push}
use Rattle.packed.specs.Packing.{groups, packed_entry, packed, numbers, entries_in, unpacked, NoNumber, NoEntry, Whole}

-- a number that is read back as it was packed
pub numbers_groups : (n : ℕ) (r : List ℕ) → n < 65536 → numbers (groups n ++ r) ≡ n ∷ numbers r
numbers_groups n r h = ⊎_elim
    (λ small. let a = lt-ltb n 128 small in simp a)
    (λ big. let a = le-ltb n 128 big in
    let b : ltb (128 + n % 128) 128 ≡ false = le-ltb (128 + n % 128) 128 (omega arith) in
    ⊎_elim
    (λ mid. let c = lt-ltb n 16384 mid in
    let d : ltb (n / 128) 128 ≡ true = lt-ltb (n / 128) 128 (omega arith) in
    let e : ((128 + n % 128) - 128) + 128 * (n / 128) ≡ n = omega arith in
    simp (a, b, c, d, e))
    (λ far. let c = le-ltb n 16384 far in
    let d : ltb (128 + (n / 128) % 128) 128 ≡ false = le-ltb (128 + (n / 128) % 128) 128 (omega arith) in
    let f : ltb (n / 16384) 128 ≡ true = lt-ltb (n / 16384) 128 (omega arith) in
    let e : ((128 + n % 128) - 128) + 128 * (((128 + (n / 128) % 128) - 128) + 128 * (n / 16384)) ≡ n = omega arith in
    simp (a, b, c, d, f, e))
    (cases_lt n 16384))
    (cases_lt n 128)

-- one number stands at the front of some bytes at most
pub groups_unique : (bs : List ℕ) (a b : ℕ) (r q : List ℕ) → a < 65536 → b < 65536 → bs ≡ groups a ++ r → bs ≡ groups b ++ q → (a ≡ b) × (r ≡ q)
groups_unique bs a b r q ha hb p o =
    let both : a ∷ numbers r ≡ b ∷ numbers q = sym (numbers_groups a r ha) ∙ ap numbers (sym p ∙ o) ∙ numbers_groups b q hb in
    let same : a ≡ b = cc in
    (same, append_cancel_left (groups a) r q (sym p ∙ o ∙ ap (λ n. groups n ++ q) (sym same)))

-- a packed entry by its four numbers
pub entry_parts : (e : Entry) (r : List ℕ) → packed_entry e ++ r ≡ groups e.s ++ (groups e.n ++ (groups e.fl ++ (groups e.fh ++ r)))
entry_parts e r = simp append_assoc

pub unpacked_entry : (e : Entry) (r : List ℕ) → is_entry e ≡ true → unpacked (packed_entry e ++ r) ≡ e ∷ unpacked r
unpacked_entry e r h =
    let k = small e h in
    let fh = numbers_groups e.fh r k.fh in
    let fl = numbers_groups e.fl (groups e.fh ++ r) k.fl ∙ ap (λ ns. e.fl ∷ ns) fh in
    let n = numbers_groups e.n (groups e.fl ++ (groups e.fh ++ r)) (omega arith) ∙ ap (λ ns. e.n ∷ ns) fl in
    let s = numbers_groups e.s (groups e.n ++ (groups e.fl ++ (groups e.fh ++ r))) (omega arith) ∙ ap (λ ns. e.s ∷ ns) n in
    ap unpacked (entry_parts e r) ∙ ap entries_in s

pub unpacked_append : (l : List Entry) (r : List ℕ) → list_all is_entry l ≡ true → unpacked (packed l ++ r) ≡ l ++ unpacked r
unpacked_append [] r h = refl
unpacked_append (e ∷ l) r h =
    let p = and_parts (is_entry e) (list_all is_entry l) h in
    ap unpacked (append_assoc (packed_entry e) (packed l) r) ∙ unpacked_entry e (packed l ++ r) p.0 ∙ ap (λ m. e ∷ m) (unpacked_append l r p.1)

pub unpacked_packed : (l : List Entry) → list_all is_entry l ≡ true → unpacked (packed l) ≡ l
unpacked_packed l h = ap unpacked (sym (append-nil (packed l))) ∙ unpacked_append l [] h ∙ append-nil l

-- packed entries are whole
pub record Holds (bs : List ℕ) (l : List Entry) : Type 0 where
  pub list : unpacked bs ≡ l
  pub whole : Whole bs

pub holds : (bs : List ℕ) (l : List Entry) → list_all is_entry l ≡ true → bs ≡ packed l → Holds bs l
holds bs l h p =
    let e : unpacked bs ≡ l = ap unpacked p ∙ unpacked_packed l h in
    record { list = e; whole = record { packs = ap packed e ∙ sym p; entries = ap (list_all is_entry) e ∙ h } }

-- no entry stands where its last number is missing, or where its numbers are none
pub no_fourth : (bs r1 r2 r3 : List ℕ) (s n fl : ℕ) → s < 65536 → n < 65536 → fl < 65536 → bs ≡ groups s ++ r1 → r1 ≡ groups n ++ r2 → r2 ≡ groups fl ++ r3 → NoNumber r3 → NoEntry bs
no_fourth bs r1 r2 r3 s n fl hs hn hfl ps pn pfl none e rest h p =
    let k = small e h in
    let a = groups_unique bs s e.s r1 (groups e.n ++ (groups e.fl ++ (groups e.fh ++ rest))) hs (omega arith) ps (p ∙ entry_parts e rest) in
    let b = groups_unique r1 n e.n r2 (groups e.fl ++ (groups e.fh ++ rest)) hn (omega arith) pn a.1 in
    let d = groups_unique r2 fl e.fl r3 (groups e.fh ++ rest) hfl k.fl pfl b.1 in
    none e.fh rest k.fh d.1

pub not_an_entry : (bs r1 r2 r3 r4 : List ℕ) (s n fl fh : ℕ) → s < 65536 → n < 65536 → fl < 65536 → fh < 65536 → bs ≡ groups s ++ r1 → r1 ≡ groups n ++ r2 → r2 ≡ groups fl ++ r3 → r3 ≡ groups fh ++ r4 → is_entry (record { s = s; n = n; fl = fl; fh = fh }) ≡ false → NoEntry bs
not_an_entry bs r1 r2 r3 r4 s n fl fh hs hn hfl hfh ps pn pfl pfh none e rest h p =
    let k = small e h in
    let a = groups_unique bs s e.s r1 (groups e.n ++ (groups e.fl ++ (groups e.fh ++ rest))) hs (omega arith) ps (p ∙ entry_parts e rest) in
    let b = groups_unique r1 n e.n r2 (groups e.fl ++ (groups e.fh ++ rest)) hn (omega arith) pn a.1 in
    let d = groups_unique r2 fl e.fl r3 (groups e.fh ++ rest) hfl k.fl pfl b.1 in
    let f = groups_unique r3 fh e.fh r4 rest hfh k.fh pfh d.1 in
    let here : is_entry e ≡ false = rw (← a.0, ← b.0, ← d.0, ← f.0) none in
    both_ways (is_entry e) here h

pub an_entry : (bs r1 r2 r3 r4 : List ℕ) (e : Entry) → bs ≡ groups e.s ++ r1 → r1 ≡ groups e.n ++ r2 → r2 ≡ groups e.fl ++ r3 → r3 ≡ groups e.fh ++ r4 → bs ≡ packed_entry e ++ r4
an_entry bs r1 r2 r3 r4 e ps pn pfl pfh =
    ps ∙ ap (λ r. groups e.s ++ r) (pn ∙ ap (λ r. groups e.n ++ r) (pfl ∙ ap (λ r. groups e.fl ++ r) pfh)) ∙ sym (entry_parts e r4)

pub found : (bs r1 r2 r3 : List ℕ) (r4 : Bor (List ℕ)) (e : Entry) → e.s < 65536 → e.n < 65536 → e.fl < 65536 → e.fh < 65536 → bs ≡ groups e.s ++ r1 → r1 ≡ groups e.n ++ r2 → r2 ≡ groups e.fl ++ r3 → r3 ≡ groups e.fh ++ r4.now → (b : Bool) → b ≡ is_entry e → MatchOption {T = Entry × Bor (List ℕ)} (then_some b (e, r4)) (NoEntry bs) (λ x. (is_entry x.0 ≡ true) × (bs ≡ packed_entry x.0 ++ x.1.now))
found bs r1 r2 r3 r4 e hs hn hfl hfh ps pn pfl pfh true h = (sym h, an_entry bs r1 r2 r3 r4.now e ps pn pfl pfh)
found bs r1 r2 r3 r4 e hs hn hfl hfh ps pn pfl pfh false h = not_an_entry bs r1 r2 r3 r4.now e.s e.n e.fl e.fh hs hn hfl hfh ps pn pfl pfh (sym h)

-- a byte is the number that it was made of
pub same_byte : {E : Type 0} (r : Result ℕ E) (P : Type 0) (n b : ℕ) → OkIff r P n → Some b ≡ result_ok r → n ≡ b
same_byte (Ok x) P n b h p = let e = h.1 in cc
same_byte (Err y) P n b h p = cc

pub packed_split : (k : ℕ) (l : List Entry) → packed (take k l) ++ packed (drop k l) ≡ packed l
packed_split k l = sym (packed_append (take k l) (drop k l)) ∙ ap packed (take-append-drop k l)

-- where the first k entries end, there the rest begins
pub drop_packed : (k : ℕ) (l : List Entry) → drop (length (packed (take k l))) (packed l) ≡ packed (drop k l)
drop_packed k l = ap (drop (length (packed (take k l)))) (sym (packed_split k l)) ∙ drop_at (packed (take k l)) (packed (drop k l)) _ refl

pub take_packed : (k : ℕ) (l : List Entry) → take (length (packed (take k l))) (packed l) ≡ packed (take k l)
take_packed k l = ap (take (length (packed (take k l)))) (sym (packed_split k l)) ∙ take_at (packed (take k l)) (packed (drop k l)) _ refl

pub packed_more : (l : List Entry) (k : ℕ) (d : Entry) → k < length l → packed (take (k + 1) l) ≡ packed (take k l) ++ packed_entry (get_or l k d)
packed_more l k d h = ap packed (take_more l k d h) ∙ packed_push (take k l) (get_or l k d)

pub packed_within : (l : List Entry) (k : ℕ) → length (packed (take k l)) ≤ length (packed l)
packed_within l k = omega (arith, ap length (packed_split k l), length-append (packed (take k l)) (packed (drop k l)))
