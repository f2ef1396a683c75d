-- Every table that a tree may name is one of the layout.
use Rattle.std.proofs.Common.{◌≡◌, ℕ, zero, suc, ◌+◌, ◌*◌, ◌/◌, ◌%◌, ◌<◌, ◌≤◌, Bool, true, false, cond, not, ◌&&◌, ◌||◌, T, leb, get_or, ℤ, sym, refl, subst, arith, leb→le}
use mir.Val.{bool_byte}
use Rattle.std.specs.declared.option.Option.TheVariants as maybe
use Rattle.std.specs.declared.option.Option as std
use Rattle.av1.specs.declared.tile.Cell.{Cell}
use Rattle.av1.specs.declared.size.BlockSize.{BlockSize}
use Rattle.av1.specs.declared.size.BlockSize.TheVariants.{BLOCK_4X4}
use Rattle.av1.specs.declared.mv.MvSubpelPrecision.{MvSubpelPrecision}
use Rattle.av1.specs.declared.mv.MvSubpelPrecision.TheVariants as at
use Rattle.model.specs.declared.Question.TheVariants as of
use Rattle.av1.specs.declared.refusal.Refusal.TheVariants as no
use Rattle.av1.specs.Segments.{deinterleaved, same, negative, prev, segment_context}
use Rattle.av1.specs.Tiles.{flag_of}
use Rattle.av1.specs.Sizes.{level, splits}
use Rattle.av1.specs.Vectors.{class_base, signed}
use Rattle.cdf.proofs.Ranges.{all_below, true_below}
use Rattle.cdf.specs.Layout.{row_base, col_base, table_sizes, in_layout}
use Rattle.cdf.specs.Words.{Table, table}
use Rattle.model.proofs.Trees.{by_then}
use Rattle.model.proofs.Standing.{or_else_first, unless_true}
use Rattle.model.specs.Alphas.{alpha_tree, alphas_tree}
use Rattle.model.specs.Coders.{edge, whole}
use Rattle.model.specs.Decisions.{left_place, longest, State, TablesIn, TreesInLayout, above_left_of, above_of, bit, context, has_columns, has_rows, left_of, partition_table, partition_tree, prediction, segment_number, segment_tree, skip_context, table_at}
use Rattle.model.specs.Tree.{Syntax, and_then, coded, done, never, read_by}
use Rattle.model.specs.Vector.{bits_tree, component_if, component_tree, fraction_tree, has_col, has_row, high_tree, integer_tree, vector_tree}

abbrev pub At : ℕ → ℕ → Type 0
At f n = in_layout (table f n) ≡ true

pub moved_in_layout : (f g n : ℕ) → f ≡ g → At f n → At g n
moved_in_layout f g n e h = subst (λ x. At x n) e h

pub skip_in_layout : (k : ℕ) → k < 3 → At (2 * k) 2
unfolding in_layout table_sizes
skip_in_layout = true_below 3 (λ k. in_layout (table (2 * k) 2)) tt

pub split_in_layout : (k : ℕ) → k < 4 → At (6 + 4 * k) 4
unfolding in_layout table_sizes
split_in_layout = true_below 4 (λ k. in_layout (table (6 + 4 * k) 4)) tt

pub partition_in_layout : (k : ℕ) → k < 12 → At (86 + 10 * k) 10
unfolding in_layout table_sizes
partition_in_layout = true_below 12 (λ k. in_layout (table (86 + 10 * k) 10)) tt

pub segment_in_layout : (k : ℕ) → k < 3 → At (30 + 8 * k) 8
unfolding in_layout table_sizes
segment_in_layout = true_below 3 (λ k. in_layout (table (30 + 8 * k) 8)) tt

pub alpha_in_layout : (k : ℕ) → k < 6 → At (206 + 16 * k) 16
unfolding in_layout table_sizes
alpha_in_layout = true_below 6 (λ k. in_layout (table (206 + 16 * k) 16)) tt

pub signs_in_layout : At 22 8
unfolding in_layout table_sizes
signs_in_layout = refl

pub joints_in_layout : At 302 4
unfolding in_layout table_sizes
joints_in_layout = refl

-- the tables of a component
pub record Base (b : ℕ) : Type 0 where
  pub two : (k : ℕ) → k < 14 → At (b + 2 * k) 2
  pub four : (k : ℕ) → k < 3 → At (b + 28 + 4 * k) 4
  pub classes : At (b + 40) 11

base_of : (b : ℕ) → T (all_below 14 (λ k. in_layout (table (b + 2 * k) 2))) → T (all_below 3 (λ k. in_layout (table (b + 28 + 4 * k) 4))) → At (b + 40) 11 → Base b
base_of b two four classes =
    record { two = true_below 14 (λ k. in_layout (table (b + 2 * k) 2)) two; four = true_below 3 (λ k. in_layout (table (b + 28 + 4 * k) 4)) four; classes = classes }

pub base_row : Base row_base
unfolding in_layout table_sizes
base_row = base_of row_base tt tt refl

pub base_col : Base col_base
unfolding in_layout table_sizes
base_col = base_of col_base tt tt refl

-- trees one after the other
tables_then : {A B : Type 0} (R : A → Type 0) (Q : B → Type 0) (t : Syntax A) (g : A → Syntax B) → TablesIn R t → ((a : A) → R a → TablesIn Q (g a)) → TablesIn Q (and_then t g)
tables_then R Q (done a) g h k = k a h
tables_then R Q (never n) g h k = tt
tables_then R Q (coded (whole t) f) g h k = (h.0, λ s l. tables_then R Q (f s) g (h.1 s l) k)
tables_then R Q (coded (edge t ss) f) g h k = (h.0, λ s l. tables_then R Q (f s) g (h.1 s l) k)

tables_by : {A B : Type 0} (R : A → Type 0) (Q : B → Type 0) (t : Syntax A) (g : A → B) → TablesIn R t → ((a : A) → R a → Q (g a)) → TablesIn Q (read_by g t)
tables_by R Q t g h k = subst (TablesIn Q) (sym (by_then g t)) (tables_then R Q t (λ a. done (g a)) h k)

abbrev Any : {A : Type 0} → A → Type 0
Any a = Unit {0}

bits_tables : (R : ℕ → Type 0) → ((d : ℕ) → R d) → (f n : ℕ) → ((k : ℕ) → k < n → At (f + 2 * k) 2) → TablesIn R (bits_tree f n)
bits_tables R r f zero h = r 0
bits_tables R r f (suc n) h = (
  moved_in_layout (f + 2 * 0) f 2 (omega arith) (h 0 (omega arith)),
  λ s l. tables_by Any R (bits_tree (f + 2) n) (λ d. s + 2 * d) (bits_tables Any (λ d. tt) (f + 2) n (λ k m. moved_in_layout (f + 2 * suc k) (f + 2 + 2 * k) 2 (omega arith) (h (suc k) (omega arith)))) (λ d u. r (s + 2 * d)),
)

abbrev Low : ℕ → ℕ → Type 0
Low c d = c ≡ 0 → d < 2

integer_tables : (b c : ℕ) → Base b → c < 11 → TablesIn (Low c) (integer_tree b c)
integer_tables b zero h l = (moved_in_layout (b + 2 * 3) (b + 6) 2 (omega arith) (h.two 3 (omega arith)), λ s m e. m)
integer_tables b (suc c) h l =
    bits_tables (Low (suc c)) (λ d e. absurd (omega arith)) (b + 8) (suc c) (λ k m. moved_in_layout (b + 2 * (4 + k)) (b + 8 + 2 * k) 2 (omega arith) (h.two (4 + k) (omega arith)))

fraction_tables : (b : ℕ) (p : MvSubpelPrecision) (c d : ℕ) → Base b → Low c d → TablesIn Any (fraction_tree b p c d)
fraction_tables b at.MV_SUBPEL_NONE c d h l = tt
fraction_tables b at.MV_SUBPEL_LOW_PRECISION zero d h l = let m : d < 2 = l refl in (h.four d (omega arith), λ s k. tt)
fraction_tables b at.MV_SUBPEL_HIGH_PRECISION zero d h l = let m : d < 2 = l refl in (h.four d (omega arith), λ s k. tt)
fraction_tables b at.MV_SUBPEL_LOW_PRECISION (suc c) d h l = (moved_in_layout (b + 28 + 4 * 2) (b + 36) 4 (omega arith) (h.four 2 (omega arith)), λ s k. tt)
fraction_tables b at.MV_SUBPEL_HIGH_PRECISION (suc c) d h l = (moved_in_layout (b + 28 + 4 * 2) (b + 36) 4 (omega arith) (h.four 2 (omega arith)), λ s k. tt)

high_tables : (b : ℕ) (p : MvSubpelPrecision) (c : ℕ) → Base b → TablesIn Any (high_tree b p c)
high_tables b at.MV_SUBPEL_NONE c h = tt
high_tables b at.MV_SUBPEL_LOW_PRECISION c h = tt
high_tables b at.MV_SUBPEL_HIGH_PRECISION zero h = (moved_in_layout (b + 2 * 1) (b + 2) 2 (omega arith) (h.two 1 (omega arith)), λ s k. tt)
high_tables b at.MV_SUBPEL_HIGH_PRECISION (suc c) h = (moved_in_layout (b + 2 * 2) (b + 4) 2 (omega arith) (h.two 2 (omega arith)), λ s k. tt)

component_tables : (b : ℕ) (p : MvSubpelPrecision) → Base b → TablesIn (λ (z : ℤ). Unit {0}) (component_tree b p)
component_tables b p h = (
  moved_in_layout (b + 2 * 0) b 2 (omega arith) (h.two 0 (omega arith)),
  λ sign l. (
    h.classes,
    λ c m. tables_then (Low c) Any (integer_tree b c) (λ d. and_then (fraction_tree b p c d) (λ f. read_by (λ x. signed sign (class_base c + (8 * d + 2 * f + x))) (high_tree b p c)))
        (integer_tables b c h m)
        (λ d low. tables_then Any Any (fraction_tree b p c d) (λ f. read_by (λ x. signed sign (class_base c + (8 * d + 2 * f + x))) (high_tree b p c)) (fraction_tables b p c d h low)
        (λ f u. tables_by Any Any (high_tree b p c) (λ x. signed sign (class_base c + (8 * d + 2 * f + x))) (high_tables b p c h) (λ x u. tt))),
  ),
)

component_tables_if : (c : Bool) (b : ℕ) (p : MvSubpelPrecision) → Base b → TablesIn (λ (z : ℤ). Unit {0}) (component_if c b p)
component_tables_if true b p h = component_tables b p h
component_tables_if false b p h = tt

vector_tables : (p : MvSubpelPrecision) → TablesIn (λ (d : ℤ × ℤ). Unit {0}) (vector_tree p)
vector_tables p = (
  joints_in_layout,
  λ j l. tables_then Any Any (component_if (has_row j) 318 p) (λ row. read_by (λ col. (row, col)) (component_if (has_col j) 374 p)) (component_tables_if (has_row j) 318 p base_row)
      (λ row u. tables_by Any Any (component_if (has_col j) 374 p) (λ col. (row, col)) (component_tables_if (has_col j) 374 p base_col) (λ col u. tt)),
)

alpha_tables : (n other : ℕ) → n ≤ 2 → other ≤ 2 → TablesIn (λ (z : ℤ). Unit {0}) (alpha_tree n other)
alpha_tables zero other h k = tt
alpha_tables (suc n) other h k = (alpha_in_layout (3 * n + other) (omega arith), λ s l. tt)

alphas_tables : TablesIn (λ (d : ℤ × ℤ). Unit {0}) alphas_tree
alphas_tables = (
  signs_in_layout,
  λ j l. tables_then Any Any (alpha_tree ((j + 1) / 3) ((j + 1) % 3)) (λ u. read_by (λ v. (u, v)) (alpha_tree ((j + 1) % 3) ((j + 1) / 3)))
      (alpha_tables ((j + 1) / 3) ((j + 1) % 3) (omega arith) (omega arith))
      (λ u a. tables_by Any Any (alpha_tree ((j + 1) % 3) ((j + 1) / 3)) (λ v. (u, v)) (alpha_tables ((j + 1) % 3) ((j + 1) / 3) (omega arith) (omega arith)) (λ v b. tt)),
)

-- segments
segment_context_small : (ul u l : ℤ) → segment_context ul u l ≤ 2
segment_context_small ul u l = go (negative ul) (same ul u && same ul l) (same ul u || (same ul l || same u l))
  where
    go : (a b c : Bool) → cond a 0 (cond b 2 (cond c 1 0)) ≤ 2
    go true b c = omega arith
    go false true c = omega arith
    go false false true = omega arith
    go false false false = omega arith

segment_number_small : (s : State) (x y : ℕ) → segment_number s x y ≤ 2
unfolding segment_number
segment_number_small s x y =
    segment_context_small (prev (above_left_of s x y)) (prev (above_of s x y)) (prev (left_of s x y))

segment_tables : (skip : Bool) (number last near : ℕ) → number ≤ 2 → TablesIn (λ (d : ℕ). Unit {0}) (segment_tree skip number last near)
segment_tables true number last near h = tt
segment_tables false number last near h = (segment_in_layout number (omega arith), λ s l. go s (leb s last))
  where
    go : (s : ℕ) (b : Bool) → TablesIn (λ (d : ℕ). Unit {0}) (cond b (done (deinterleaved s near (last + 1))) (never no.SymbolAboveLast))
    go s true = tt
    go s false = tt

-- skip flags
flag_small : (o : std.Option Cell) → flag_of o ≤ 1
flag_small maybe.None = omega arith
flag_small (maybe.Some c) = go c.skip
  where
    go : (b : Bool) → bool_byte b ≤ 1
    go true = omega arith
    go false = omega arith

skip_small : (s : State) (x y : ℕ) → skip_context s x y < 3
skip_small s x y =
    let a : flag_of (above_of s x y) ≤ 1 = flag_small (above_of s x y) in
    let b : flag_of (left_of s x y) ≤ 1 = flag_small (left_of s x y) in
    omega arith

-- partitions
level_test : (z : BlockSize) → T (not (splits 64 z) || leb (level z) 3)
level_test BLOCK_4X4 = tt
level_test _ = tt

pub level_small : (z : BlockSize) → T (splits 64 z) → level z ≤ 3
level_small z h = leb→le (level z) 3 (go (splits 64 z) h (level_test z))
  where
    go : (b : Bool) → T b → T (not b || leb (level z) 3) → T (leb (level z) 3)
    go true h k = k
    go false h k = absurd h

bit_small : (j b : ℕ) → bit j b ≤ 1
bit_small j b = omega arith

context_small : (s : State) (x y j : ℕ) → context s x y j ≤ 3
context_small s x y j =
    let a : bit j (get_or s.left (left_place s y) 0) ≤ 1 = bit_small j (get_or s.left (left_place s y) 0) in
    let b : bit j (get_or s.above (x / 2) 0) ≤ 1 = bit_small j (get_or s.above (x / 2) 0) in
    omega arith

pub partition_table_in_layout : (j c : ℕ) → j ≤ 3 → c ≤ 3 → in_layout (partition_table j c) ≡ true
partition_table_in_layout zero c h k = split_in_layout c (omega arith)
partition_table_in_layout (suc j) c h k = partition_in_layout (4 * j + c) (omega arith)

partition_tables : (r c : Bool) (t : Table) → in_layout t ≡ true → TablesIn (λ (d : ℕ). Unit {0}) (partition_tree r c t)
partition_tables true true t h = (h, λ s l. tt)
partition_tables false true t h = (h, λ s l. tt)
partition_tables true false t h = (h, λ s l. tt)
partition_tables false false t h = tt

pub trees_in_layout : TreesInLayout
trees_in_layout s (of.Partition x y z) ok =
    let size : level z ≤ 3 = level_small z (unless_true (splits (longest s) z) no.BlockSize (or_else_first _ _ ok)) in
    partition_tables (has_rows s y z) (has_columns s x z) (table_at s x y z) (partition_table_in_layout (level z) (context s x y (level z)) size (context_small s x y (level z)))
trees_in_layout s (of.Skip x y z) ok = (skip_in_layout (skip_context s x y) (skip_small s x y), λ v l. tt)
trees_in_layout s (of.Segment x y z skip) ok = segment_tables skip (segment_number s x y) s.last (prediction s x y) (segment_number_small s x y)
trees_in_layout s of.Alphas ok = alphas_tables
trees_in_layout s (of.Vector p) ok = vector_tables p
trees_in_layout s (of.ContextUpdate x y z sub) ok = tt
trees_in_layout s of.RowStart ok = tt
