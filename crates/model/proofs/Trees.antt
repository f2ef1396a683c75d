-- The laws of any tree of symbols.
use Rattle.std.proofs.lemmas.Bool.{and_from, eq-eqb, lt-ltb}
use Rattle.std.proofs.lemmas.List.{append-nil}
use Rattle.std.proofs.Common.{subst₂, ◌≡◌, ℕ, suc, ◌+◌, ◌-◌, ◌<◌, Bool, true, false, ◌≢◌, List, [], ◌∷◌, ◌++◌, length, sym, refl, ap, ◌∙◌, subst, arith}
use native.Mathlib.Decide.{ℕ_discrete}
use Rattle.cdf.specs.declared.entry.Entry.{Entry}
use Rattle.av1.specs.declared.refusal.Refusal.TheVariants as no
use Rattle.cdf.specs.Words.{Words, fh_at, fl_at}
use Rattle.model.specs.Coders.{Coder, after, coded_by, entry_of, fits, symbols, table_of}
use Rattle.model.specs.Tree.{Answer, Apart, Begins, Fault, Leads, ReadBy, ReadThen, ReadsBack, Syntax, TellsApart, and_then, coded, done, faulty, go_on, never, read, read_as, read_by, written}

pub tells_apart : (D : Type 0) → TellsApart D
tells_apart D (done c) [] [] d e h k apart = absurd (apart (sym h ∙ k))
tells_apart D (done c) [] (r ∷ q) d e h k apart = absurd k
tells_apart D (coded c f) (s ∷ p) [] d e h k apart = absurd k
tells_apart D (coded c f) (s ∷ p) (r ∷ q) d e h k apart =
    go (ℕ_discrete s r) (tells_apart D (f s) p q d e h.1)
  where
    go : Dec (s ≡ r) → (Leads (f s) q e → d ≢ e → Apart p q) → Apart (s ∷ p) (r ∷ q)
    go (yes same) rec =
        let found : Apart p q = rec (subst (λ (x : ℕ). Leads (f x) q e) (sym same) k.1) apart in
        (suc found.0, omega arith, omega arith, found.3)
    go (no differ) rec = (0, omega arith, omega arith, differ)
tells_apart D _ p q d e h k apart = absurd h

pub fits_own : (w : Words) (k : Coder) (s : ℕ) → s < symbols k → fits w k (entry_of w k s) ≡ true
fits_own w k s h =
    and_from _ _ (lt-ltb s (symbols k) h)
    (and_from _ _ (eq-eqb (symbols k) (symbols k) refl) (and_from _ _ (eq-eqb (fl_at (coded_by w k) s) _ refl) (eq-eqb (fh_at (symbols k) (coded_by w k) s) _ refl)))

pub reads_back : (D : Type 0) → ReadsBack D
reads_back D w (done c) began last place [] d rest h = let e : place ≡ place + 0 = omega arith in ap (λ (x : D). read_as x w rest place) h ∙ ap (read_as d w rest) e
reads_back D w (coded k f) began last place (s ∷ p) d rest h =
    rw (fits_own w k s h.0, read) (reads_back D (after w k s) (f s) began (table_of k).first (suc place) p d rest h.1)
    ∙ ap (read_as d (written (after w k s) (f s) p).words rest) more
  where
    more : suc place + length (written (after w k s) (f s) p).entries ≡ place + suc (length (written (after w k s) (f s) p).entries)
    more = omega arith
reads_back D w _ began last place p d rest h = absurd h

begins_same : (D : Type 0) (w : Words) (t : Syntax D) (began last last' place : ℕ) (es : List Entry) → Begins t → read w t began last place es ≡ read w t began last' place es
begins_same D w (never n) began last last' place es h = absurd h
begins_same D w (coded k f) began last last' place [] h = refl
begins_same D w _ began last last' place es h = refl

pub read_then : (A B : Type 0) → ReadThen A B
read_then A B (done a) g h w began last place es = begins_same B w (g a) began last 0 place es (h a)
read_then A B (never n) g h w began last place es = refl
read_then A B (coded k f) g h w began last place [] = refl
read_then A B (coded k f) g h w began last place (e ∷ es) = go (fits w k e) (read_then A B (f e.s) g h (after w k e.s) began (table_of k).first (suc place) es)
  where
    next : (a : A) (v : Words) (rest : List Entry) (p : ℕ) → Answer B
    next a v rest p = read v (g a) began 0 p rest

    stop : Fault
    stop = record { why = no.EntryUnfit; entry = place - began; table = (table_of k).first; place = place }

    go : (b : Bool)
        → read (after w k e.s) (and_then (f e.s) g) began (table_of k).first (suc place) es ≡ go_on (read (after w k e.s) (f e.s) began (table_of k).first (suc place) es) next
        → elim b [ true ↦ read (after w k e.s) (and_then (f e.s) g) began (table_of k).first (suc place) es | false ↦ faulty stop ]
        ≡ go_on (elim b [ true ↦ read (after w k e.s) (f e.s) began (table_of k).first (suc place) es | false ↦ faulty stop ]) next
    go true ih = ih
    go false ih = refl

-- what is made of a decision is one more syntax, which takes no symbol
pub by_then : {A B : Type 0} (g : A → B) (t : Syntax A) → read_by g t ≡ and_then t (λ a. done (g a))
by_then g (done a) = refl
by_then g (never n) = refl
by_then g (coded k f) = λ i. coded k (λ s. by_then g (f s) i)

pub read_map : (A B : Type 0) → ReadBy A B
read_map A B t g w began last place es =
    ap (λ u. read w u began last place es) (by_then g t) ∙ read_then A B t (λ a. done (g a)) (λ a. tt) w began last place es

pub leads_then : {A B : Type 0} (t : Syntax A) (g : A → Syntax B) (p q : List ℕ) (a : A) (b : B) → Leads t p a → Leads (g a) q b → Leads (and_then t g) (p ++ q) b
leads_then (done c) g [] q a b h k = subst (λ x. Leads (g x) q b) (sym h) k
leads_then (coded c f) g (s ∷ p) q a b h k = (h.0, leads_then (f s) g p q a b h.1 k)
leads_then _ g p q a b h k = absurd h

pub leads_by : {A B : Type 0} (t : Syntax A) (g : A → B) (p : List ℕ) (a : A) (b : B) → Leads t p a → g a ≡ b → Leads (read_by g t) p b
leads_by t g p a b h k = subst₂ (λ u q. Leads u q b) (sym (by_then g t)) (append-nil p) (leads_then t (λ a. done (g a)) p [] a b h k)
