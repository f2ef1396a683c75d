-- Symbols coded one after the other.
use Rattle.stage.specs.View.{open_trials}
use Rattle.std.proofs.Common.{◌≡◌, ℕ, zero, suc, ◌+◌, ◌*◌, ◌/◌, ◌%◌, ◌^◌, ◌<◌, ◌≤◌, List, [], ◌∷◌, ◌++◌, sym, refl, ap, ◌∙◌, subst, ap₂, subst₂, arith}
use Rattle.std.proofs.lemmas.Nat.{shr-shr}
use Rattle.av1.specs.declared.tile.Cell.{Cell}
use Rattle.cdf.specs.Words.{table}
use Rattle.journal.specs.declared.Log.{Log}
use Rattle.model.specs.Calls.{symbol_step, symbol_steps}
use Rattle.model.specs.Coders.{whole}
use Rattle.model.specs.Decisions.{stage}
use Rattle.model.specs.Runs.{World}
use Rattle.model.specs.Tree.{Leads, Syntax, and_then, done, one, read_by}
use Rattle.model.specs.Vector.{bits_of, bits_tree}
use Rattle.model.proofs.Stepping.{steps_by, steps_then}
use Rattle.stage.specs.Coding.{Coded, Moment, RoomFor, world_of}
use Rattle.stage.specs.Lanes.{SameMemory}

same_memory : (l : Log) → SameMemory l l
same_memory l = record { small = refl; large = refl; spots = refl; small_long = refl; large_long = refl; spots_long = refl }

memory_then : (l m n : Log) → SameMemory n m → SameMemory m l → SameMemory n l
memory_then l m n b a =
    record {
      small = b.small ∙ a.small;
      large = b.large ∙ a.large;
      spots = b.spots ∙ a.spots;
      small_long = b.small_long ∙ a.small_long;
      large_long = b.large_long ∙ a.large_long;
      spots_long = b.spots_long ∙ a.spots_long;
    }

-- no symbol
pub coded_none : {D : Type 0} (d : D) (p : List ℕ) (m : Moment) → Coded (done d) p 0 0 m m
coded_none d p m =
    record { step = λ memory. refl; rooms = refl; left = omega arith; small = omega arith; large = omega arith; memory = same_memory m.log; trials = refl }

-- the same numbers, written otherwise
pub recount : {D : Type 0} (t : Syntax D) (p : List ℕ) (few many few' many' : ℕ) (m n : Moment) → few ≡ few' → many ≡ many' → Coded t p few many m n → Coded t p few' many' m n
recount t p few many few' many' m n a b h = subst₂ (λ x y. Coded t p x y m n) a b h

-- one symbol, from what it makes of the stage
pub coded_small : (first count s : ℕ) (m n : Moment) → count ≤ 4
    → ((memory : List Cell) → world_of n memory ≡ symbol_step (whole (table first count)) s (world_of m memory))
    → n.rooms ≡ m.rooms → m.rooms m.list ≤ n.rooms n.list + 1
    → (count ≤ 4 → (n.stage.journal.used.small ≤ m.stage.journal.used.small + 1) × (n.stage.journal.used.large ≡ m.stage.journal.used.large))
    → SameMemory n.log m.log → open_trials n.stage.journal ≡ open_trials m.stage.journal
    → Coded (one first count) (s ∷ []) 1 0 m n
coded_small first count s m n h step rooms left few memory trials =
    let f = few h in
    record { step = step; rooms = rooms; left = omega arith; small = f.0; large = omega arith; memory = memory; trials = trials }

pub coded_large : (first count s : ℕ) (m n : Moment) → 4 < count
    → ((memory : List Cell) → world_of n memory ≡ symbol_step (whole (table first count)) s (world_of m memory))
    → n.rooms ≡ m.rooms → m.rooms m.list ≤ n.rooms n.list + 1
    → (4 < count → (n.stage.journal.used.large ≤ m.stage.journal.used.large + 1) × (n.stage.journal.used.small ≡ m.stage.journal.used.small))
    → SameMemory n.log m.log → open_trials n.stage.journal ≡ open_trials m.stage.journal
    → Coded (one first count) (s ∷ []) 0 1 m n
coded_large first count s m n h step rooms left many memory trials =
    let f = many h in
    record { step = step; rooms = rooms; left = omega arith; small = omega arith; large = f.0; memory = memory; trials = trials }

-- what two stretches keep, whatever is coded in each
coded_on : {A B C : Type 0} (t : Syntax A) (u : Syntax B) (v : Syntax C) (p q r : List ℕ) (few many few' many' : ℕ) (m n o : Moment) → Coded t p few many m n → Coded u q few' many' n o
    → ((w : World stage) → symbol_steps u q (symbol_steps t p w) ≡ symbol_steps v r w)
    → Coded v r (few + few') (many + many') m o
coded_on t u v p q r few many few' many' m n o a b joined =
    record {
      step = λ memory. b.step memory ∙ ap (symbol_steps u q) (a.step memory) ∙ joined (world_of m memory);
      rooms = b.rooms ∙ a.rooms;
      left = omega (arith, a.left, b.left);
      small = omega (arith, a.small, b.small);
      large = omega (arith, a.large, b.large);
      memory = memory_then m.log n.log o.log b.memory a.memory;
      trials = b.trials ∙ a.trials;
    }

-- one syntax and then another
pub coded_then : {A B : Type 0} (t : Syntax A) (g : A → Syntax B) (p q : List ℕ) (a : A) (few many few' many' : ℕ) (m n o : Moment) → Leads t p a → Coded t p few many m n → Coded (g a) q few' many' n o
    → Coded (and_then t g) (p ++ q) (few + few') (many + many') m o
coded_then {A} {B} t g p q a few many few' many' m n o h first next =
    coded_on t (g a) (and_then t g) p q (p ++ q) few many few' many' m n o first next (λ w. sym (steps_then A B t g p q a w h))

pub coded_by : {A B : Type 0} (t : Syntax A) (g : A → B) (p : List ℕ) (few many : ℕ) (m n : Moment) → Coded t p few many m n → Coded (read_by g t) p few many m n
coded_by t g p few many m n h =
    record {
      step = λ memory. h.step memory ∙ sym (steps_by t g p (world_of m memory));
      rooms = h.rooms;
      left = h.left;
      small = h.small;
      large = h.large;
      memory = h.memory;
      trials = h.trials;
    }

-- room for more is room for less
pub room_within : (few many few' many' : ℕ) (m : Moment) → few ≤ few' → many ≤ many' → RoomFor few' many' m → RoomFor few many m
room_within few many few' many' m small large room =
    record {
      entries = omega (arith, room.entries);
      small = λ opened. omega (arith, room.small opened);
      large = λ opened. omega (arith, room.large opened);
    }

-- the room that is left for what follows
pub room_left : {D : Type 0} (t : Syntax D) (p : List ℕ) (few many few' many' few'' many'' : ℕ) (m n : Moment) → Coded t p few many m n
    → few + few' ≤ few'' → many + many' ≤ many'' → RoomFor few'' many'' m → RoomFor few' many' n
room_left t p few many few' many' few'' many'' m n h small large room =
    record {
      entries = omega (arith, h.left, room.entries);
      small = λ opened. omega (arith, h.small, room.small (omega (arith, h.trials)), h.memory.small_long);
      large = λ opened. omega (arith, h.large, room.large (omega (arith, h.trials)), h.memory.large_long);
    }

-- one bit more
bits_more : (i f v : ℕ) (w : World stage)
    → symbol_steps (one (f + 2 * i) 2) (v / 2 ^ i % 2 ∷ []) (symbol_steps (bits_tree f i) (bits_of i v) w) ≡ symbol_steps (bits_tree f (suc i)) (bits_of (suc i) v) w
bits_more zero f v w = ap₂ (λ g k. symbol_step (whole (table g 2)) (k % 2) w) start all
  where
    start : f + 2 * 0 ≡ f
    start = omega arith

    all : v / 2 ^ 0 ≡ v
    all = omega arith
bits_more (suc i) f v w =
    let u : World stage = symbol_step (whole (table f 2)) (v % 2) w in
    ap₂ (λ g k. symbol_step (whole (table g 2)) (k % 2) (symbol_steps (read_by (λ r. v % 2 + 2 * r) (bits_tree (f + 2) i)) (bits_of i (v / 2)) u)) next halves
    ∙ ap (symbol_step (whole (table (f + 2 + 2 * i) 2)) (v / 2 / 2 ^ i % 2)) (steps_by (bits_tree (f + 2) i) (λ r. v % 2 + 2 * r) (bits_of i (v / 2)) u)
    ∙ bits_more i (f + 2) (v / 2) u
    ∙ sym (steps_by (bits_tree (f + 2) (suc i)) (λ r. v % 2 + 2 * r) (bits_of (suc i) (v / 2)) u)
  where
    next : f + 2 * suc i ≡ f + 2 + 2 * i
    next = omega arith

    halves : v / 2 ^ suc i ≡ v / 2 / 2 ^ i
    halves = ap (λ n. v / 2 ^ n) one_more ∙ sym (shr-shr v 1 i)
      where
        one_more : suc i ≡ 1 + i
        one_more = omega arith

pub coded_bit : (i f v : ℕ) (m n o : Moment) → Coded (bits_tree f i) (bits_of i v) i 0 m n → Coded (one (f + 2 * i) 2) (v / 2 ^ i % 2 ∷ []) 1 0 n o
    → Coded (bits_tree f (i + 1)) (bits_of (i + 1) v) (i + 1) 0 m o
coded_bit i f v m n o first next =
    subst (λ k. Coded (bits_tree f k) (bits_of k v) (i + 1) 0 m o) after
    (coded_on (bits_tree f i) (one (f + 2 * i) 2) (bits_tree f (suc i)) (bits_of i v) (v / 2 ^ i % 2 ∷ []) (bits_of (suc i) v) i 0 1 0 m n o first next (bits_more i f v))
  where
    after : suc i ≡ i + 1
    after = omega arith
