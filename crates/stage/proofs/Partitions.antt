-- A partition of the stage is the model's.
use Rattle.journal.specs.declared.Counts.{Counts}
use Rattle.std.proofs.Common.{◌≡◌, ℕ, zero, suc, ◌+◌, ◌-◌, ◌*◌, ◌<◌, Bool, true, false, cond, not, eqb, leb, List, [], ◌∷◌, length, Ok, Err, Result, sym, refl, ap, ◌∙◌, ap₂, arith}
use mathlib.Core.Option.{Option}
use mir.Val.{bool_byte}
use Rattle.av1.specs.declared.refusal.Refusal.{Refusal}
use Rattle.av1.specs.declared.refusal.Refusal.TheVariants as no
use Rattle.av1.specs.declared.size.BlockSize.{BlockSize}
use Rattle.av1.specs.Sizes.{level, splits}
use Rattle.av1.specs.Tiles.{square_asked}
use Rattle.av1.specs.Tiles as tile
use Rattle.cdf.specs.declared.entry.Entry.{Entry}
use Rattle.cdf.specs.Words.{Words, Table, table}
use Rattle.model.specs.declared.Question.TheVariants as question
use Rattle.model.specs.Calls.{decision_step, symbol_step, symbol_steps}
use Rattle.model.specs.Coders.{edge}
use Rattle.model.specs.Decisions.{State, stage, add_if, window_at, has_columns, has_rows, large_of, partition_allowed, partition_path, partition_table, partition_tree, small_of, table_at}
use Rattle.model.specs.Runs.{World, Lent, ask, refusal, or_else, unless}
use Rattle.model.specs.Tree.{written}
use Rattle.stage.specs.declared.state.Journal.{Journal}
use Rattle.stage.specs.Partitions.{context_at, entries_at, small_at, large_at}
use Rattle.stage.specs.Questions.{need, record_asked}
use Rattle.stage.specs.View.{world_at, refused_by}
use Rattle.stage.proofs.Calls.{refused_step, accepted_step, mapless_refusal}

-- the tables of squares of 8 pixels, and of more
pub split_table : (level ctx : ℕ) → level ≡ 0 → table (6 + 4 * ctx) 4 ≡ partition_table level ctx
split_table zero ctx e = refl
split_table (suc j) ctx e = absurd (omega arith)

pub larger_table : (level ctx : ℕ) → 0 < level → table (86 + 10 * (4 * (level - 1) + ctx)) 10 ≡ partition_table level ctx
larger_table zero ctx h = absurd (omega arith)
larger_table (suc j) ctx h = let e : suc j - 1 ≡ j = omega arith in ap (λ i. table (86 + 10 * (4 * i + ctx)) 10) e

as_number : (b : Bool) → bool_byte b ≡ cond b 1 0
as_number true = refl
as_number false = refl

pub bottom_coded : (r c : Bool) (t : Table) (p : ℕ) (w : World stage) → r ≡ false → c ≡ true
    → symbol_step (edge t (2 ∷ 3 ∷ 4 ∷ 6 ∷ 7 ∷ 9 ∷ [])) (bool_byte (eqb p 3)) w ≡ symbol_steps (partition_tree r c t) (partition_path r c p) w
bottom_coded r c t p w a b =
    ap (λ v. symbol_step (edge t (2 ∷ 3 ∷ 4 ∷ 6 ∷ 7 ∷ 9 ∷ [])) v w) (as_number (eqb p 3))
    ∙ sym (ap₂ (λ x y. symbol_steps (partition_tree x y t) (partition_path x y p) w) a b)

pub right_coded : (r c : Bool) (t : Table) (p : ℕ) (w : World stage) → r ≡ true → c ≡ false
    → symbol_step (edge t (1 ∷ 3 ∷ 4 ∷ 5 ∷ 6 ∷ 8 ∷ [])) (bool_byte (eqb p 3)) w ≡ symbol_steps (partition_tree r c t) (partition_path r c p) w
right_coded r c t p w a b =
    ap (λ v. symbol_step (edge t (1 ∷ 3 ∷ 4 ∷ 5 ∷ 6 ∷ 8 ∷ [])) v w) (as_number (eqb p 3))
    ∙ sym (ap₂ (λ x y. symbol_steps (partition_tree x y t) (partition_path x y p) w) a b)

-- what coding it takes
path_length : (r c : Bool) (p : ℕ) → length (partition_path r c p) ≡ entries_at r c
path_length true true p = refl
path_length false true p = refl
path_length true false p = refl
path_length false false p = refl

small_length : (r c : Bool) (w : Words) (t : Table) (p : ℕ) → length (small_of w (partition_tree r c t) (partition_path r c p)) ≡ small_at r c t.count
small_length true true w t p = go (leb t.count 4)
  where
    go : (b : Bool) → length (add_if b (window_at 4 w t.first) []) ≡ cond b 1 0
    go true = refl
    go false = refl
small_length false true w t p = refl
small_length true false w t p = refl
small_length false false w t p = refl

large_length : (r c : Bool) (w : Words) (t : Table) (p : ℕ) → length (large_of w (partition_tree r c t) (partition_path r c p)) ≡ large_at r c t.count
large_length true true w t p = go (leb t.count 4)
  where
    go : (b : Bool) → length (add_if (not b) (window_at 16 w t.first) []) ≡ cond b 0 1
    go true = refl
    go false = refl
large_length false true w t p = refl
large_length true false w t p = refl
large_length false false w t p = refl

sent_length : (r c : Bool) (w : Words) (t : Table) (p : ℕ) → length (written w (partition_tree r c t) (partition_path r c p)).entries ≡ entries_at r c
sent_length true true w t p = refl
sent_length false true w t p = refl
sent_length true false w t p = refl
sent_length false false w t p = refl

-- the questions on room and lanes, and those before them on the partition
abbrev pub taken : State → Journal → Lent stage → ℕ → ℕ → BlockSize → ℕ → Result (Unit {0}) Refusal
taken s j l x y z room =
    let r : Bool = has_rows s y z in
    let c : Bool = has_columns s x z in
    record_asked j l room (entries_at r c) (need (small_at r c (table_at s x y z).count) (large_at r c (table_at s x y z).count) 0)

abbrev pub fitting : State → ℕ → ℕ → BlockSize → ℕ → Bool
fitting s x y z p = partition_allowed (has_rows s y z) (has_columns s x z) (table_at s x y z) p

abbrev then_asked : State → Journal → Lent stage → ℕ → ℕ → BlockSize → ℕ → ℕ → Option Refusal
then_asked s j l x y z p room = or_else (unless (fitting s x y z p) no.Partition) (refused_by (taken s j l x y z room))

-- what the stage has worked out is the model's
pub same_table : (s : State) (x y : ℕ) (z : BlockSize) (lv ctx first n : ℕ) → lv ≡ level z → ctx ≡ context_at s.above s.left x y lv → table first n ≡ partition_table lv ctx
    → table first n ≡ table_at s x y z
same_table s x y z lv ctx first n lev con tab = tab ∙ ap₂ partition_table lev (con ∙ ap (context_at s.above s.left x y) lev)

pub same_fit : (s : State) (x y : ℕ) (z : BlockSize) (r c : Bool) (t : Table) (p q : ℕ) → r ≡ has_rows s y z → c ≡ has_columns s x z → t ≡ table_at s x y z → p ≡ q
    → partition_allowed r c t p ≡ fitting s x y z q
same_fit s x y z r c t p q rows columns tab num = λ i. partition_allowed (rows i) (columns i) (tab i) (num i)

pub same_taken : (s : State) (j : Journal) (l : Lent stage) (x y : ℕ) (z : BlockSize) (r c : Bool) (t : Table) (entries : ℕ) (n : Counts) (room room' : ℕ) → r ≡ has_rows s y z → c ≡ has_columns s x z → t ≡ table_at s x y z
    → entries ≡ entries_at r c → n ≡ need (small_at r c t.count) (large_at r c t.count) 0 → room ≡ room' → record_asked j l room entries n ≡ taken s j l x y z room'
same_taken s j l x y z r c t entries n room room' rows columns tab e a same =
    (λ i. record_asked j l (same i) (e i) (a i)) ∙ (λ i. record_asked j l room' (entries_at (rows i) (columns i)) (need (small_at (rows i) (columns i) (tab i).count) (large_at (rows i) (columns i) (tab i).count) 0))

pub same_coded : (s : State) (x y : ℕ) (z : BlockSize) (r c : Bool) (t : Table) (p q : ℕ) (w : World stage) → r ≡ has_rows s y z → c ≡ has_columns s x z → t ≡ table_at s x y z → p ≡ q
    → symbol_steps (partition_tree r c t) (partition_path r c p) w ≡ symbol_steps (partition_tree (has_rows s y z) (has_columns s x z) (table_at s x y z)) (partition_path (has_rows s y z) (has_columns s x z) q) w
same_coded s x y z r c t p q w rows columns tab num = λ i. symbol_steps (partition_tree (rows i) (columns i) (tab i)) (partition_path (rows i) (columns i) (num i)) w

module _ (memory : ℕ) (room : List Entry → ℕ) (s : State) (j : Journal) (l : Lent stage) (es : List Entry) (x y : ℕ) (z : BlockSize) (p : ℕ) where
  questions : refusal stage memory room (world_at s j l es) (ask (question.Partition x y z) p)
      ≡ or_else (refused_by (square_asked s.columns s.rows 64 x y z))
      (then_asked s j l x y z p (room es))
  questions =
      mapless_refusal memory room s j l es (question.Partition x y z) p _ _ _ 0 refl refl
      (path_length (has_rows s y z) (has_columns s x z) p) (small_length (has_rows s y z) (has_columns s x z) s.words (table_at s x y z) p) (large_length (has_rows s y z) (has_columns s x z) s.words (table_at s x y z) p) refl
      ∙ ap (λ o. or_else o (then_asked s j l x y z p (room es)))
      (square (splits 64 z) (tile.in_tile s.columns s.rows x y z))
    where
      square : (a b : Bool) → or_else (unless a no.BlockSize) (unless b no.Position) ≡ refused_by (cond a (cond b (Ok (tt {0})) (Err no.Position)) (Err no.BlockSize))
      square true true = refl
      square true false = refl
      square false b = refl

  pub refused_square : (e : Refusal) → Err e ≡ square_asked s.columns s.rows 64 x y z
      → (Err e, world_at s j l es) ≡ decision_step memory room (question.Partition x y z) p (world_at s j l es)
  refused_square e h = refused_step memory room (question.Partition x y z) p (world_at s j l es) e (questions ∙ ap (λ a. or_else (refused_by a) (then_asked s j l x y z p (room es))) (sym h))

  -- the square is accepted
  module _ (u : Unit {0}) (square : Ok u ≡ square_asked s.columns s.rows 64 x y z) where
    asked_then : refusal stage memory room (world_at s j l es) (ask (question.Partition x y z) p)
        ≡ then_asked s j l x y z p (room es)
    asked_then = questions ∙ ap (λ a. or_else (refused_by a) (then_asked s j l x y z p (room es))) (sym square)

    pub refused_partition : fitting s x y z p ≡ false
        → (Err no.Partition, world_at s j l es) ≡ decision_step memory room (question.Partition x y z) p (world_at s j l es)
    refused_partition h = refused_step memory room (question.Partition x y z) p (world_at s j l es) no.Partition (asked_then ∙ ap (λ b. or_else (unless b no.Partition) (refused_by (taken s j l x y z (room es)))) h)

    pub refused_record : (e : Refusal) → fitting s x y z p ≡ true
        → Err e ≡ taken s j l x y z (room es)
        → (Err e, world_at s j l es) ≡ decision_step memory room (question.Partition x y z) p (world_at s j l es)
    refused_record e h k = refused_step memory room (question.Partition x y z) p (world_at s j l es) e (asked_then ∙ ap (λ b. or_else (unless b no.Partition) (refused_by (taken s j l x y z (room es)))) h ∙ ap refused_by (sym k))

    pub accepted : (v : World stage) (n : ℕ) (o : Unit {0}) → fitting s x y z p ≡ true
        → Ok o ≡ taken s j l x y z (room es)
        → n ≡ entries_at (has_rows s y z) (has_columns s x z)
        → v ≡ symbol_steps (partition_tree (has_rows s y z) (has_columns s x z) (table_at s x y z)) (partition_path (has_rows s y z) (has_columns s x z) p) (world_at s j l es)
        → (Ok n, v) ≡ decision_step memory room (question.Partition x y z) p (world_at s j l es)
    accepted v n o h k count after =
        accepted_step memory room (question.Partition x y z) p (world_at s j l es) v n
        (asked_then ∙ ap (λ b. or_else (unless b no.Partition) (refused_by (taken s j l x y z (room es)))) h ∙ ap refused_by (sym k))
        (sent_length (has_rows s y z) (has_columns s x z) s.words (table_at s x y z) p ∙ sym count) after
