-- Bits read one after the other: what is left to read gives what the whole gives.
use Rattle.std.proofs.Common.{◌≡◌, ℕ, zero, suc, ◌+◌, ◌-◌, ◌*◌, ◌%◌, ◌^◌, ◌<◌, ◌≤◌, Ok, Err, refl, ap, ◌∙◌, sym, add-one, arith}
use Rattle.std.proofs.Math.Nat.{pow-suc}
use Rattle.std.proofs.Math.Pow.{pow_mono}
use Rattle.cdf.specs.Words.{table}
use Rattle.model.specs.Coders.{whole}
use Rattle.model.specs.Tree.{Answer, Syntax, and_then, coded, done, faulty, never, one, read, read_as, read_by}
use Rattle.model.specs.Vector.{bits_tree}
use Rattle.stage.specs.declared.reader.fault.ReadFault.{ReadFault}
use Rattle.stage.specs.Faults.{fault_of}
use Rattle.stage.specs.Reads.{OnlyTables, Point, Reads, ahead}
use Rattle.stage.proofs.ReadPoints.{only_then}
use Rattle.stage.proofs.ReadTrees.{read_stops, read_then}

-- whatever is read of what is left is what is read of the whole
pub record Left {D : Type 0} (start : ℕ) (t : Syntax D) (m : Point) (u : Syntax D) (n : Point) : Type 0 where
  pub answer : (x : Answer D) → ((k : ℕ) → x ≡ read n.stage.tables.words u start k n.place (ahead n)) → (last : ℕ) → x ≡ read m.stage.tables.words t start last m.place (ahead m)
  pub list : n.list ≡ m.list
  pub on : m.place ≤ n.place
  pub kept : OnlyTables n.stage m.stage

pub goes : {A B : Type 0} {start : ℕ} {t : Syntax B} {u : Syntax A} {m n o : Point} {a : A} (g : A → Syntax B)
    → Left start t m (and_then u g) n → Reads start u n o (Ok a) → Left start t m (g a) o
goes {A} {B} {start} {t} {u} {m} {n} {o} {a} g x y =
    record {
      answer = λ z h last.
          x.answer z (λ k. read_then A B u g n.stage.tables.words start k n.place (ahead n) a o.stage.tables.words (ahead o) o.place z (y.answer k) h) last;
      list = y.list ∙ x.list;
      on = omega (arith, x.on, y.on);
      kept = only_then y.kept x.kept;
    }

pub breaks : {A B : Type 0} {start : ℕ} {t : Syntax B} {u : Syntax A} {m n o : Point} {f : ReadFault} (g : A → Syntax B)
    → Left start t m (and_then u g) n → Reads start u n o (Err f) → Reads start t m o (Err f)
breaks {A} {B} {start} {t} {u} {m} {n} {o} {f} g x y =
    record {
      answer = λ last. x.answer (faulty (fault_of f)) (λ k. read_stops A B u g n.stage.tables.words start k n.place (ahead n) (fault_of f) (y.answer k)) last;
      list = y.list ∙ x.list;
      on = omega (arith, x.on, y.on);
      kept = only_then y.kept x.kept;
    }

pub closes : {D : Type 0} {start : ℕ} {t : Syntax D} {m n : Point} {d : D} → Left start t m (done d) n → Reads start t m n (Ok d)
closes {D} {start} {t} {m} {n} {d} x =
    record { answer = λ last. x.answer (read_as d n.stage.tables.words (ahead n) n.place) (λ k. refl) last; list = x.list; on = x.on; kept = x.kept }

-- the bits from bit i on, so many, over those below it
abbrev pub bits_from : ℕ → ℕ → ℕ → ℕ → Syntax ℕ
bits_from f i zero sum = done sum
bits_from f i (suc n) sum = and_then (one (f + 2 * i) 2) (λ b. bits_from f (i + 1) n (sum + b * 2 ^ i))

by_twice : {A B C : Type 0} (h : B → C) (g : A → B) (t : Syntax A) → read_by h (read_by g t) ≡ read_by (λ a. h (g a)) t
by_twice h g (done a) = refl
by_twice h g (never n) = refl
by_twice h g (coded k f) = λ i. coded k (λ s. by_twice h g (f s) i)

-- they are the model's, with those below them
bits_over : (f i n sum : ℕ) → bits_from f i n sum ≡ read_by (λ r. sum + 2 ^ i * r) (bits_tree (f + 2 * i) n)
bits_over f i zero sum = let none : sum ≡ sum + 2 ^ i * 0 = omega arith in ap done none
bits_over f i (suc n) sum = λ j. coded (whole (table (f + 2 * i) 2)) (λ b. (bits_over f (i + 1) n (sum + b * 2 ^ i) ∙ regrouped b ∙ sym (by_twice (λ r. sum + 2 ^ i * r) (λ r. b + 2 * r) (bits_tree (f + 2 * i + 2) n))) j)
  where
    place : f + 2 * (i + 1) ≡ f + 2 * i + 2
    place = omega arith

    sums : (p q b r : ℕ) → q ≡ p * 2 → sum + b * p + q * r ≡ sum + p * (b + 2 * r)
    sums p q b r e = rw e (omega arith)

    regrouped : (b : ℕ) → read_by (λ r. sum + b * 2 ^ i + 2 ^ (i + 1) * r) (bits_tree (f + 2 * (i + 1)) n) ≡ read_by (λ r. sum + 2 ^ i * (b + 2 * r)) (bits_tree (f + 2 * i + 2) n)
    regrouped b = λ j. read_by (λ r. sums (2 ^ i) (2 ^ (i + 1)) b r (ap (λ k. 2 ^ k) (add-one i) ∙ pow-suc 2 i) j) (bits_tree (place j) n)

-- all bits from the first on
pub bits_whole : (f n : ℕ) → bits_from f 0 n 0 ≡ bits_tree f n
bits_whole f n = bits_over f 0 n 0 ∙ (λ j. read_by (λ r. one_of r j) (bits_tree (first j) n)) ∙ by_same (bits_tree f n)
  where
    first : f + 2 * 0 ≡ f
    first = omega arith

    one_of : (r : ℕ) → 0 + 2 ^ 0 * r ≡ r
    one_of r = omega arith

    by_same : (t : Syntax ℕ) → read_by (λ r. r) t ≡ t
    by_same (done a) = refl
    by_same (never n) = refl
    by_same (coded k g) = λ i. coded k (λ s. by_same (g s) i)

-- one bit, and the rest
pub bits_turn : (f i n sum : ℕ) → i < n → bits_from f i (n - i) sum ≡ and_then (one (f + 2 * i) 2) (λ b. bits_from f (i + 1) (n - (i + 1)) (sum + b * 2 ^ i))
bits_turn f i n sum h = let e : n - i ≡ suc (n - (i + 1)) = omega arith in ap (λ k. bits_from f i k sum) e

pub bits_end : (f i n sum : ℕ) → i ≡ n → bits_from f i (n - i) sum ≡ done sum
bits_end f i n sum h = let e : n - i ≡ 0 = omega arith in ap (λ k. bits_from f i k sum) e

bit_at_most : (b p : ℕ) → b < 2 → b * p ≤ p
bit_at_most zero p h = omega arith
bit_at_most (suc zero) p h = omega arith
bit_at_most (suc (suc b)) p h = absurd (omega arith)

-- a bit put in its place loses nothing
pub bit_placed : (b i : ℕ) → b < 2 → i < 10 → (b * 2 ^ i) % 4294967296 ≡ b * 2 ^ i
bit_placed b i hb hi =
    let p : 2 ^ i ≤ 2 ^ 10 = pow_mono (let l : i ≤ 10 = omega arith in l) in
    let l : b * 2 ^ i ≤ 2 ^ i = bit_at_most b (2 ^ i) hb in
    omega arith

pub bits_grow : (b i sum : ℕ) → b < 2 → sum < 2 ^ i → sum + b * 2 ^ i < 2 ^ (i + 1)
bits_grow b i sum hb h =
    let l : b * 2 ^ i ≤ 2 ^ i = bit_at_most b (2 ^ i) hb in
    let e : 2 ^ (i + 1) ≡ 2 ^ i * 2 = ap (λ k. 2 ^ k) (add-one i) ∙ pow-suc 2 i in
    omega arith
