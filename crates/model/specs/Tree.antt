-- A decision's syntax, as the standard's decoding process has it: a tree of symbols. What is written for a path through
-- the tree, and what is read along it.
use Rattle.std.specs.Prelude.{◌≡◌, ℕ, suc, ◌+◌, ◌-◌, ◌<◌, true, false, ◌≢◌, List, [], ◌∷◌, ◌++◌, length, slice_index}
use Rattle.cdf.specs.declared.entry.Entry.{Entry}
use Rattle.av1.specs.declared.refusal.Refusal.{Refusal}
use Rattle.av1.specs.declared.refusal.Refusal.TheVariants as no
use Rattle.cdf.specs.Words.{Words, table}
use Rattle.model.specs.Coders.{Coder, whole, table_of, symbols, entry_of, after, fits}

pub data Syntax (D : Type 0) : Type 0 where
  -- the decision is known
  done : D → Syntax D
  -- the symbol just read is refused
  never : Refusal → Syntax D
  -- a symbol is next, and its value says how to go on
  coded : Coder → (ℕ → Syntax D) → Syntax D

-- one syntax, and then another that what was read chooses
abbrev pub and_then : {A B : Type 0} → Syntax A → (A → Syntax B) → Syntax B
and_then (done a) g = g a
and_then (never n) g = never n
and_then (coded k f) g = coded k (λ s. and_then (f s) g)

abbrev pub read_by : {A B : Type 0} → (A → B) → Syntax A → Syntax B
read_by g (done a) = done (g a)
read_by g (never n) = never n
read_by g (coded k f) = coded k (λ s. read_by g (f s))

-- the symbol of a table
abbrev pub one : ℕ → ℕ → Syntax ℕ
one f n = coded (whole (table f n)) (λ s. done s)

-- these symbols, all of them, lead to this decision
abbrev pub Leads : {D : Type 0} → Syntax D → List ℕ → D → Type 0
Leads (done e) [] d = e ≡ d
Leads (done e) (s ∷ p) d = ⊥
Leads (never n) p d = ⊥
Leads (coded k f) [] d = ⊥
Leads (coded k f) (s ∷ p) d = (s < symbols k) × Leads (f s) p d

-- two paths differ at a number that both hold
abbrev pub Apart : List ℕ → List ℕ → Type 0
Apart p q = (i : ℕ) × (i < length p) × (i < length q) × (slice_index p i ≢ slice_index q i)

-- different decisions have different symbols
abbrev pub TellsApart : Type 0 → Type 0
TellsApart D = (t : Syntax D) (p q : List ℕ) (d e : D) → Leads t p d → Leads t q e → d ≢ e → Apart p q

-- what is written for the symbols of a path, and the words then
pub record Written : Type 0 where
  pub entries : List Entry
  pub words : Words

abbrev pub written : {D : Type 0} → Words → Syntax D → List ℕ → Written
written w (done d) p = record { entries = []; words = w }
written w (never n) p = record { entries = []; words = w }
written w (coded k f) [] = record { entries = []; words = w }
written w (coded k f) (s ∷ p) =
    let r : Written = written (after w k s) (f s) p in
    record { entries = entry_of w k s ∷ r.entries; words = r.words }

-- where a read stopped: why, the entry's number in its decision, the first word of its table (at an edge, of the table summed), and its place in the source
pub record Fault : Type 0 where
  pub why : Refusal
  pub entry : ℕ
  pub table : ℕ
  pub place : ℕ

pub data Answer (D : Type 0) : Type 0 where
  -- the decision, the words then, the entries that are left and the place of the first of them
  read_as : D → Words → List Entry → ℕ → Answer D
  faulty : Fault → Answer D

-- a read that began at a place of the source and has come to another, where the last symbol was read by the table at `last`
abbrev pub read : {D : Type 0} → Words → Syntax D → ℕ → ℕ → ℕ → List Entry → Answer D
read w (done d) began last place es = read_as d w es place
read w (never n) began last place es = faulty (record { why = n; entry = place - 1 - began; table = last; place = place - 1 })
read w (coded k f) began last place [] = faulty (record { why = no.NoNextEntry; entry = place - began; table = (table_of k).first; place = place })
read w (coded k f) began last place (e ∷ es) =
    elim (fits w k e) [
      | true ↦ read (after w k e.s) (f e.s) began (table_of k).first (suc place) es
      | false ↦ faulty (record { why = no.EntryUnfit; entry = place - began; table = (table_of k).first; place = place })
    ]

-- what is written for a decision is read as that decision, with the same words, and the rest is left
abbrev pub ReadsBack : Type 0 → Type 0
ReadsBack D =
    (w : Words) (t : Syntax D) (began last place : ℕ) (p : List ℕ) (d : D) (rest : List Entry) → Leads t p d
    → read w t began last place ((written w t p).entries ++ rest) ≡ read_as d (written w t p).words rest (place + length (written w t p).entries)

-- a read, and then another that what was read chooses; the first fault stops it
abbrev pub go_on : {A B : Type 0} → Answer A → (A → Words → List Entry → ℕ → Answer B) → Answer B
go_on (read_as a w es place) g = g a w es place
go_on (faulty f) g = faulty f

-- more than a refusal
abbrev pub Begins : {D : Type 0} → Syntax D → Type 0
Begins (done d) = Unit {0}
Begins (never n) = ⊥
Begins (coded k f) = Unit {0}

abbrev pub ReadThen : (A B : Type 0) → Type 0
ReadThen A B =
    (t : Syntax A) (g : A → Syntax B) → ((a : A) → Begins (g a)) → (w : Words) (began last place : ℕ) (es : List Entry)
    → read w (and_then t g) began last place es ≡ go_on (read w t began last place es) (λ a v rest next. read v (g a) began 0 next rest)

abbrev pub ReadBy : (A B : Type 0) → Type 0
ReadBy A B =
    (t : Syntax A) (g : A → B) (w : Words) (began last place : ℕ) (es : List Entry)
    → read w (read_by g t) began last place es ≡ go_on (read w t began last place es) (λ a v rest next. read_as (g a) v rest next)
