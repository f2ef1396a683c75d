-- Reading from one point to another: a symbol, one syntax after another, and the end of a decision.
use Rattle.std.proofs.Common.{◌≡◌, ℕ, suc, ◌-◌, ◌<◌, ◌≤◌, Bool, true, length, drop, Ok, Err, Result, sym, refl, ap, ◌∙◌, subst, add-one, arith}
use Rattle.std.proofs.lemmas.Bool.{both_ways}
use Rattle.av1.specs.declared.refusal.Refusal.{Refusal}
use Rattle.cdf.specs.Words.{Table}
use Rattle.model.specs.Coders.{Coder, after, coded_by, symbols, table_of}
use Rattle.model.specs.Decisions.{partition_tree}
use Rattle.model.specs.Tree.{Syntax, and_then, coded, done, faulty, never, read_as, read_by}
use Rattle.model.proofs.Trees.{by_then}
use Rattle.record.specs.declared.source.SourceFault.{SourceFault}
use Rattle.record.specs.Sources.{next_answer, next_place}
use Rattle.stage.specs.declared.reader.fault.ReadFault.{ReadFault}
use Rattle.stage.specs.declared.reader.fault.ReadFault.TheVariants as fault
use Rattle.stage.specs.declared.reader.fault.SymbolFault.{SymbolFault}
use Rattle.stage.specs.declared.state.Stage.{Stage}
use Rattle.stage.specs.Faults.{fault_of}
use Rattle.stage.specs.Reads.{OnlyTables, Point, Reads, Took, ahead, beside, symbol_tree, told}
use Rattle.stage.proofs.ReadTrees.{next_below, next_placed, next_read, read_never, place_read, read_stops, read_then, symbol_read}

pub only_same : {s : Stage} → OnlyTables s s
only_same {s} = record { tile = refl; last = refl; contexts = refl; journal = refl }

pub only_then : {s t u : Stage} → OnlyTables s t → OnlyTables t u → OnlyTables s u
only_then a b = record { tile = a.tile ∙ b.tile; last = a.last ∙ b.last; contexts = a.contexts ∙ b.contexts; journal = a.journal ∙ b.journal }

-- a symbol was read
pub took_symbol : (k : Coder) (m n : Point) (s : ℕ)
    → Ok s ≡ next_answer m.list m.place (coded_by m.stage.tables.words k) → length (coded_by m.stage.tables.words k) ≡ symbols k
    → n.list ≡ m.list → n.place ≡ next_place m.list m.place (coded_by m.stage.tables.words k) → n.stage.tables.words ≡ after m.stage.tables.words k s → OnlyTables n.stage m.stage
    → Took k m n (Ok s)
took_symbol k m n s given long same moved adapted kept =
    record {
      reads = λ start. record {
        answer = λ last.
            (λ i. read_as s (adapted i) (drop (next i) (same i)) (next i))
            ∙ ap (symbol_read m.stage.tables.words k m.list start m.place) given
            ∙ next_read m.stage.tables.words k m.list start last m.place long;
        list = same;
        on = omega (arith, next);
        kept = kept;
      };
      below = subst (λ c. s < c) long (next_below m.list m.place (coded_by m.stage.tables.words k) s given);
      still = λ h. absurd (both_ways true h refl);
    }
  where
    next : n.place ≡ suc m.place
    next = moved ∙ next_placed m.list m.place (coded_by m.stage.tables.words k) ∙ ap (place_read m.place) (sym given) ∙ add-one m.place

-- none was read
pub took_none : (k : Coder) (m n : Point) (f : SourceFault)
    → Err f ≡ next_answer m.list m.place (coded_by m.stage.tables.words k) → length (coded_by m.stage.tables.words k) ≡ symbols k
    → n.list ≡ m.list → n.place ≡ next_place m.list m.place (coded_by m.stage.tables.words k) → n.stage ≡ m.stage
    → Took k m n (Err (record { source = f; table = (table_of k).first }))
took_none k m n f given long same moved stays =
    record {
      reads = λ start. record {
        answer = λ last.
            ap (symbol_read m.stage.tables.words k m.list start m.place) given
            ∙ next_read m.stage.tables.words k m.list start last m.place long;
        list = same;
        on = omega (arith, here);
        kept = subst (λ s. OnlyTables s m.stage) (sym stays) only_same;
      };
      below = tt;
      still = λ h. (stays, here);
    }
  where
    here : n.place ≡ m.place
    here = moved ∙ next_placed m.list m.place (coded_by m.stage.tables.words k) ∙ ap (place_read m.place) (sym given)

-- one syntax is read, and then the next; or reading stops in the first
pub after_that : {A B : Type 0} {start : ℕ} {t : Syntax A} {l m n : Point} {a : A} {r : Result B ReadFault} (g : A → Syntax B)
    → Reads start t l m (Ok a) → Reads start (g a) m n r → Reads start (and_then t g) l n r
after_that {A} {B} {start} {t} {l} {m} {n} {a} {r} g x y =
    record {
      answer = λ last.
          read_then A B t g l.stage.tables.words start last l.place (ahead l) a m.stage.tables.words (ahead m) m.place (told r n) (x.answer last) y.answer;
      list = y.list ∙ x.list;
      on = omega (arith, x.on, y.on);
      kept = only_then y.kept x.kept;
    }

pub stops : {A B : Type 0} {start : ℕ} {t : Syntax A} {l m : Point} {f : ReadFault} (g : A → Syntax B)
    → Reads start t l m (Err f) → Reads start (and_then t g) l m (Err f)
stops {A} {B} {start} {t} {l} {m} {f} g x =
    record {
      answer = λ last. read_stops A B t g l.stage.tables.words start last l.place (ahead l) (fault_of f) (x.answer last);
      list = x.list;
      on = x.on;
      kept = x.kept;
    }

-- the decision is known
pub ends : {D : Type 0} {start : ℕ} {m : Point} {d e : D} → e ≡ d → Reads start (done d) m m (Ok e)
ends {D} {start} {m} {d} {e} same =
    record { answer = λ last. ap (λ x. read_as x m.stage.tables.words (ahead m) m.place) same; list = refl; on = omega arith; kept = only_same }

-- what is made of what was read
pub made : {A B : Type 0} {start : ℕ} {t : Syntax A} {m n : Point} {a : A} {b : B} (g : A → B)
    → Reads start t m n (Ok a) → b ≡ g a → Reads start (read_by g t) m n (Ok b)
made {A} {B} {start} {t} {m} {n} {a} {b} g x same =
    subst (λ u. Reads start u m n (Ok b)) (sym (by_then g t)) (after_that (λ c. done (g c)) x (ends same))

pub stops_made : {A B : Type 0} {start : ℕ} {t : Syntax A} {m n : Point} {f : ReadFault} (g : A → B)
    → Reads start t m n (Err f) → Reads start (read_by g t) m n (Err f)
stops_made {A} {B} {start} {t} {m} {n} {f} g x = subst (λ u. Reads start u m n (Err f)) (sym (by_then g t)) (stops (λ c. done (g c)) x)

-- a symbol in a decision that began at place `start`
pub entry_read : (k : Coder) (m n : Point) (r : Result ℕ SymbolFault) (start s : ℕ) → Took k m n r → r ≡ Ok s → Reads start (coded k (λ s. done s)) m n (Ok s)
entry_read k m n r start s took given = subst (λ x. Reads start (coded k (λ s. done s)) m n (beside (m.place - start) x)) given (took.reads start)

pub entry_stops : (k : Coder) (m n : Point) (r : Result ℕ SymbolFault) (start entry : ℕ) (f : SymbolFault) → Took k m n r → r ≡ Err f → entry ≡ m.place - start
    → Reads start (coded k (λ s. done s)) m n (Err (fault.Symbol f entry))
entry_stops k m n r start entry f took given number =
    subst (λ e. Reads start (coded k (λ s. done s)) m n (Err (fault.Symbol f e))) (sym number)
    (subst (λ x. Reads start (coded k (λ s. done s)) m n (beside (m.place - start) x)) given (took.reads start))

-- the same of a partition's syntax, from what the code tested
pub partition_read : {start p : ℕ} {m n : Point} {r : Result ℕ ReadFault} (a b : Bool) (t : Table) (rows cols : Bool) → start ≡ p → a ≡ rows → b ≡ cols
    → Reads start (partition_tree rows cols t) m n r → Reads p (partition_tree a b t) m n r
partition_read {start} {p} {m} {n} {r} a b t rows cols at up along x =
    subst (λ i. Reads i (partition_tree a b t) m n r) at
    (subst (λ i. Reads start (partition_tree i b t) m n r) (sym up) (subst (λ i. Reads start (partition_tree rows i t) m n r) (sym along) x))

-- a symbol that is given, and then refused; the source may have gone back
pub refuses : {D : Type 0} {start s : ℕ} {k : Coder} {m n : Point} (g : ℕ → Syntax D) (why : Refusal) (f : ReadFault) (o : Point)
    → Reads start (symbol_tree k) m n (Ok s) → g s ≡ never why
    → fault_of f ≡ record { why = why; entry = m.place - start; table = (table_of k).first; place = m.place }
    → o.list ≡ n.list → m.place ≤ o.place → OnlyTables o.stage n.stage → Reads start (coded k g) m o (Err f)
refuses {D} {start} {s} {k} {m} {n} g why f o x refused same list on kept =
    record {
      answer = λ last. ap faulty same ∙ read_never D k g m.stage.tables.words start last m.place (ahead m) s n.stage.tables.words (ahead n) n.place why refused (x.answer last);
      list = list ∙ x.list;
      on = on;
      kept = only_then kept x.kept;
    }
