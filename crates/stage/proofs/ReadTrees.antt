-- What is read by one syntax and then another, and a symbol that is read by a coder.
use Rattle.std.proofs.Common.{◌≡◌, ℕ, suc, ◌+◌, ◌-◌, ◌<◌, ◌≤◌, Bool, true, false, cond, ◌&&◌, eqb, ltb, List, [], ◌∷◌, length, get_or, drop, Ok, Err, Result, sym, refl, ap, ◌∙◌, subst, arith}
use Rattle.std.proofs.lemmas.Bool.{and_parts, ltb-true, ltb-false}
use Rattle.std.proofs.lemmas.List.{drop_all}
use Rattle.std.proofs.Math.Seq.{drop-cons}
use Rattle.av1.specs.declared.refusal.Refusal.{Refusal}
use Rattle.av1.specs.declared.refusal.Refusal.TheVariants as no
use Rattle.cdf.specs.declared.entry.Entry.{Entry}
use Rattle.cdf.specs.Entries.{entry_fits}
use Rattle.cdf.specs.Words.{Words, fh_at, fl_at}
use Rattle.model.specs.Coders.{Coder, after, coded_by, fits, symbols, table_of}
use Rattle.model.specs.Tree.{Answer, Fault, Syntax, and_then, coded, done, faulty, never, read, read_as}
use Rattle.record.specs.declared.source.SourceFault.{SourceFault}
use Rattle.record.specs.declared.source.SourceFault.TheVariants as source
use Rattle.record.specs.Sinks.{no_entry}
use Rattle.record.specs.Sources.{next_answer, next_place, place_of, refusal_of}

-- the first syntax is read, and the second gives what the whole gives
pub read_then : (A B : Type 0) (t : Syntax A) (g : A → Syntax B) (w : Words) (start last p : ℕ) (es : List Entry) (a : A) (v : Words) (rest : List Entry) (next : ℕ) (x : Answer B)
    → read_as a v rest next ≡ read w t start last p es → ((k : ℕ) → x ≡ read v (g a) start k next rest) → x ≡ read w (and_then t g) start last p es
read_then A B (done c) g w start last p es a v rest next x h more = let e : x ≡ read v (g a) start last next rest = more last in cc
read_then A B (never n) g w start last p es a v rest next x h more = cc
read_then A B (coded k f) g w start last p [] a v rest next x h more = cc
read_then A B (coded k f) g w start last p (e ∷ es) a v rest next x h more =
    go (fits w k e) h (λ i. read_then A B (f e.s) g (after w k e.s) start (table_of k).first (suc p) es a v rest next x i more)
  where
    stop : Fault
    stop = record { why = no.EntryUnfit; entry = p - start; table = (table_of k).first; place = p }

    go : (b : Bool)
        → read_as a v rest next ≡ elim b [ true ↦ read (after w k e.s) (f e.s) start (table_of k).first (suc p) es | false ↦ faulty stop ]
        → (read_as a v rest next ≡ read (after w k e.s) (f e.s) start (table_of k).first (suc p) es → x ≡ read (after w k e.s) (and_then (f e.s) g) start (table_of k).first (suc p) es)
        → x ≡ elim b [ true ↦ read (after w k e.s) (and_then (f e.s) g) start (table_of k).first (suc p) es | false ↦ faulty stop ]
    go true i rec = rec i
    go false i rec = cc

-- the first syntax stops the whole
pub read_stops : (A B : Type 0) (t : Syntax A) (g : A → Syntax B) (w : Words) (start last p : ℕ) (es : List Entry) (x : Fault)
    → faulty x ≡ read w t start last p es → faulty x ≡ read w (and_then t g) start last p es
read_stops A B (done c) g w start last p es x h = cc
read_stops A B (never n) g w start last p es x h = cc
read_stops A B (coded k f) g w start last p [] x h = cc
read_stops A B (coded k f) g w start last p (e ∷ es) x h = go (fits w k e) h (read_stops A B (f e.s) g (after w k e.s) start (table_of k).first (suc p) es x)
  where
    stop : Fault
    stop = record { why = no.EntryUnfit; entry = p - start; table = (table_of k).first; place = p }

    go : (b : Bool)
        → ◌≡◌ {A = Answer A} (faulty x) (elim b [ true ↦ read (after w k e.s) (f e.s) start (table_of k).first (suc p) es | false ↦ faulty stop ])
        → (faulty x ≡ read (after w k e.s) (f e.s) start (table_of k).first (suc p) es → faulty x ≡ read (after w k e.s) (and_then (f e.s) g) start (table_of k).first (suc p) es)
        → ◌≡◌ {A = Answer B} (faulty x) (elim b [ true ↦ read (after w k e.s) (and_then (f e.s) g) start (table_of k).first (suc p) es | false ↦ faulty stop ])
    go true i rec = rec i
    go false i rec = cc

-- a symbol that a source gave for a coder, or why it gave none
abbrev pub symbol_read : Words → Coder → List Entry → ℕ → ℕ → Result ℕ SourceFault → Answer ℕ
symbol_read w k l start p (Ok s) = read_as s (after w k s) (drop (suc p) l) (suc p)
symbol_read w k l start p (Err f) = faulty (record { why = refusal_of f; entry = p - start; table = (table_of k).first; place = place_of f })

abbrev pub place_read : ℕ → Result ℕ SourceFault → ℕ
place_read p (Ok s) = p + 1
place_read p (Err f) = p

next_cases : {A : Type 0} (f : Result ℕ SourceFault → A) (l : List Entry) (p : ℕ) (vs : List ℕ)
    → f (next_answer l p vs) ≡ cond (ltb p (length l)) (cond (entry_fits vs (get_or l p no_entry)) (f (Ok (get_or l p no_entry).s)) (f (Err (source.EntryUnfit p)))) (f (Err (source.NoNextEntry p)))
next_cases f l p vs = go (ltb p (length l)) (entry_fits vs (get_or l p no_entry))
  where
    go : (a b : Bool)
        → f (cond a (cond b (Ok (get_or l p no_entry).s) (Err (source.EntryUnfit p))) (Err (source.NoNextEntry p)))
        ≡ cond a (cond b (f (Ok (get_or l p no_entry).s)) (f (Err (source.EntryUnfit p)))) (f (Err (source.NoNextEntry p)))
    go true true = refl
    go true false = refl
    go false b = refl

pub next_placed : (l : List Entry) (p : ℕ) (vs : List ℕ) → next_place l p vs ≡ place_read p (next_answer l p vs)
next_placed l p vs = sym (next_cases (place_read p) l p vs)

fits_same : (w : Words) (k : Coder) (e : Entry) → length (coded_by w k) ≡ symbols k → entry_fits (coded_by w k) e ≡ fits w k e
fits_same w k e h = ap (λ n. ltb e.s n && (eqb e.n n && (eqb e.fl (fl_at (coded_by w k) e.s) && eqb e.fh (fh_at n (coded_by w k) e.s)))) h

pub next_read : (w : Words) (k : Coder) (l : List Entry) (start last p : ℕ) → length (coded_by w k) ≡ symbols k
    → symbol_read w k l start p (next_answer l p (coded_by w k)) ≡ read w (coded k (λ s. done s)) start last p (drop p l)
next_read w k l start last p long = next_cases (symbol_read w k l start p) l p (coded_by w k) ∙ go (ltb p (length l)) (ltb-true p (length l)) (ltb-false p (length l))
  where
    e : Entry
    e = get_or l p no_entry

    by_fit : (a b : Bool) → a ≡ b
        → cond a (read_as e.s (after w k e.s) (drop (suc p) l) (suc p)) (faulty (record { why = no.EntryUnfit; entry = p - start; table = (table_of k).first; place = p }))
        ≡ elim b [ true ↦ read_as e.s (after w k e.s) (drop (suc p) l) (suc p) | false ↦ faulty (record { why = no.EntryUnfit; entry = p - start; table = (table_of k).first; place = p }) ]
    by_fit true true h = refl
    by_fit false false h = refl
    by_fit true false h = cc
    by_fit false true h = cc

    go : (a : Bool) → (a ≡ true → p < length l) → (a ≡ false → length l ≤ p)
        → cond a (cond (entry_fits (coded_by w k) e) (symbol_read w k l start p (Ok e.s)) (symbol_read w k l start p (Err (source.EntryUnfit p)))) (symbol_read w k l start p (Err (source.NoNextEntry p)))
        ≡ read w (coded k (λ s. done s)) start last p (drop p l)
    go true inside past =
        by_fit (entry_fits (coded_by w k) e) (fits w k e) (fits_same w k e long)
        ∙ ap (read w (coded k (λ s. done s)) start last p) (sym (drop-cons l p no_entry (inside refl)))
    go false inside past = ap (read w (coded k (λ s. done s)) start last p) (sym (drop_all p l (past refl)))

-- a symbol that is given is one of the coder's
pub next_below : (l : List Entry) (p : ℕ) (vs : List ℕ) (s : ℕ) → Ok s ≡ next_answer l p vs → s < length vs
next_below l p vs s h = go (ltb p (length l)) (entry_fits vs e) (λ t. ltb-true e.s (length vs) (and_parts (ltb e.s (length vs)) _ t).0) h
  where
    e : Entry
    e = get_or l p no_entry

    go : (a b : Bool) → (b ≡ true → e.s < length vs) → ◌≡◌ {A = Result ℕ SourceFault} (Ok s) (cond a (cond b (Ok e.s) (Err (source.EntryUnfit p))) (Err (source.NoNextEntry p))) → s < length vs
    go true true in_table k = let same : s ≡ e.s = cc in subst (λ n. n < length vs) (sym same) (in_table refl)
    go true false in_table k = cc
    go false b in_table k = cc

-- a symbol that is given, and then refused
pub read_never : (D : Type 0) (k : Coder) (g : ℕ → Syntax D) (w : Words) (start last p : ℕ) (es : List Entry) (s : ℕ) (v : Words) (rest : List Entry) (next : ℕ) (n : Refusal) → g s ≡ never n
    → read_as s v rest next ≡ read w (coded k (λ s. done s)) start last p es
    → faulty (record { why = n; entry = p - start; table = (table_of k).first; place = p }) ≡ read w (coded k g) start last p es
read_never D k g w start last p [] s v rest next n no_more h = cc
read_never D k g w start last p (e ∷ es) s v rest next n no_more h = go (fits w k e) h
  where
    unfit : Fault
    unfit = record { why = no.EntryUnfit; entry = p - start; table = (table_of k).first; place = p }

    here : suc p - 1 ≡ p
    here = omega arith

    told : (i : ℕ) → i ≡ p → ◌≡◌ {A = Answer D} (faulty (record { why = n; entry = p - start; table = (table_of k).first; place = p })) (faulty (record { why = n; entry = i - start; table = (table_of k).first; place = i }))
    told i e = sym (ap (λ j. faulty (record { why = n; entry = j - start; table = (table_of k).first; place = j })) e)

    go : (b : Bool) → ◌≡◌ {A = Answer ℕ} (read_as s v rest next) (elim b [ true ↦ read_as e.s (after w k e.s) es (suc p) | false ↦ faulty unfit ])
        → ◌≡◌ {A = Answer D} (faulty (record { why = n; entry = p - start; table = (table_of k).first; place = p })) (elim b [ true ↦ read (after w k e.s) (g e.s) start (table_of k).first (suc p) es | false ↦ faulty unfit ])
    go true i =
        let same : s ≡ e.s = cc in
        told (suc p - 1) here ∙ ap (λ (t : Syntax D). read (after w k e.s) t start (table_of k).first (suc p) es) (sym no_more ∙ ap g same)
    go false i = cc
