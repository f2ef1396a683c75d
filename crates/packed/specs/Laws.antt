-- That a packed record owes what every sink owes. Only the last statement is cited by code; the others serve proofs.
use Rattle.std.specs.Prelude.{◌≡◌, ℕ, ◌+◌, ◌-◌, ◌*◌, ◌/◌, ◌<◌, ◌≤◌, true, List, [], ◌∷◌, ◌++◌, length, refl}
use Rattle.std.proofs.Common.{ltb, leb, sym, ap, ◌∙◌, ⊎_elim, arith}
use Rattle.std.proofs.lemmas.Bool.{cases_lt, lt-ltb, le-ltb, ltb-true, leb-true, and_parts}
use Rattle.std.proofs.lemmas.List.{append-nil, append_assoc, length-append}
use Rattle.cdf.specs.declared.entry.Entry.{Entry}
use Rattle.cdf.specs.Entries.{is_entry}
use Rattle.record.specs.Sinks.{SinkLaws}
use Rattle.packed.specs.Packing.{groups, packed_entry, packed, unpacked, Whole}

-- a number takes one to three bytes
pub record Short (n : ℕ) : Type 0 where
  pub least : 1 ≤ length (groups n)
  pub most : length (groups n) ≤ 3
  pub one : n < 128 → length (groups n) ≡ 1

pub short : (n : ℕ) → Short n
short n = ⊎_elim
    (λ small. let a = lt-ltb n 128 small in record { least = simp a (omega arith); most = simp a (omega arith); one = λ h. simp a })
    (λ big. let a = le-ltb n 128 big in
    ⊎_elim
    (λ mid. let c = lt-ltb n 16384 mid in record { least = simp (a, c) (omega arith); most = simp (a, c) (omega arith); one = λ h. absurd (omega arith) })
    (λ far. let c = le-ltb n 16384 far in record { least = simp (a, c) (omega arith); most = simp (a, c) (omega arith); one = λ h. absurd (omega arith) })
    (cases_lt n 16384))
    (cases_lt n 128)

-- the numbers of an entry are small
pub record Small (e : Entry) : Type 0 where
  pub s : e.s < 128
  pub n : e.n < 128
  pub fl : e.fl < 65536
  pub fh : e.fh < 65536

pub small : (e : Entry) → is_entry e ≡ true → Small e
small e h =
    let p = and_parts (ltb e.s e.n) _ h in
    let q = and_parts (leb 2 e.n) _ p.1 in
    let r = and_parts (leb e.n 16) _ q.1 in
    let t = and_parts (leb e.fh e.fl) _ r.1 in
    let s = ltb-true e.s e.n p.0 in
    let n = leb-true e.n 16 r.0 in
    let fh = leb-true e.fh e.fl t.0 in
    let fl = leb-true e.fl 32768 t.1 in
    record { s = omega arith; n = omega arith; fl = omega arith; fh = omega arith }

pub entry_length : (e : Entry) → length (packed_entry e) ≡ length (groups e.s) + (length (groups e.n) + (length (groups e.fl) + length (groups e.fh)))
entry_length e = simp length-append

pub entry_least : (e : Entry) → 4 ≤ length (packed_entry e)
entry_least e = omega (arith, entry_length e, (short e.s).least, (short e.n).least, (short e.fl).least, (short e.fh).least)

pub entry_most : (e : Entry) → is_entry e ≡ true → length (packed_entry e) ≤ 8
entry_most e h =
    let k = small e h in
    omega (arith, entry_length e, (short e.s).one k.s, (short e.n).one k.n, (short e.fl).most, (short e.fh).most)

pub packed_append : (l m : List Entry) → packed (l ++ m) ≡ packed l ++ packed m
packed_append [] m = refl
packed_append (e ∷ l) m = ap (λ bs. packed_entry e ++ bs) (packed_append l m) ∙ sym (append_assoc (packed_entry e) (packed l) (packed m))

pub packed_push : (l : List Entry) (e : Entry) → packed (l ++ e ∷ []) ≡ packed l ++ packed_entry e
packed_push l e = packed_append l (e ∷ []) ∙ ap (λ bs. packed l ++ bs) (append-nil (packed_entry e))

-- every entry takes at least four bytes
pub packed_least : (l : List Entry) → 4 * length l ≤ length (packed l)
packed_least [] = omega arith
packed_least (e ∷ l) = omega (arith, entry_least e, packed_least l, length-append (packed_entry e) (packed l))

-- whatever has whole bytes within its places owes what a sink owes
pub packed_laws : {S : Type 0} (bytes : S → List ℕ) (places : S → ℕ) → ((s : S) → Whole (bytes s)) → ((s : S) → length (bytes s) ≤ places s) → ((s : S) → places s ≤ 67108864) → SinkLaws (λ s. unpacked (bytes s)) (λ s l. (places s - length (packed l)) / 8)
packed_laws bytes places whole within most =
    record {
      falls = λ s l e h. omega (arith, ap length (packed_push l e), length-append (packed l) (packed_entry e), entry_most e h);
      bounded = λ s. let w = whole s in omega (arith, packed_least (unpacked (bytes s)), ap length w.packs, within s, most s);
    }
