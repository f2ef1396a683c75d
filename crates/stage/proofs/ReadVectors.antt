-- The parts of a component, read by their tables.
use Rattle.std.proofs.Common.{◌≡◌, ℕ, zero, suc, ◌+◌, ◌*◌, ◌%◌, ◌<◌, Bool, true, eqb, leb, ℤ, Ok, Result, refl, sym, subst, arith}
use Rattle.av1.specs.declared.mv.MvSubpelPrecision.{MvSubpelPrecision}
use Rattle.av1.specs.declared.mv.MvSubpelPrecision.TheVariants as precision
use Rattle.cdf.specs.Words.{Table, table}
use Rattle.model.specs.Coders.{whole}
use Rattle.model.specs.Tree.{Syntax, one}
use Rattle.model.specs.Vector.{bits_tree, component_if, component_tree, fraction_tree, has_col, has_row, high_tree, integer_tree}
use Rattle.stage.specs.declared.reader.fault.ReadFault.{ReadFault}
use Rattle.stage.specs.Reads.{Point, Reads, symbol_tree}
use Rattle.stage.specs.Vectors.{fraction_first, high_first}

-- a symbol's tree by another name of its table
named : {start : ℕ} {m n : Point} {r : Result ℕ ReadFault} (t u : Table) → t ≡ u → Reads start (symbol_tree (whole t)) m n r → Reads start (symbol_tree (whole u)) m n r
named {start} {m} {n} {r} t u e x = subst (λ k. Reads start (symbol_tree (whole k)) m n r) e x

pub integer_read : {start : ℕ} {m n : Point} {r : Result ℕ ReadFault} (b c : ℕ) → (c ≡ 0 → ⊥) → Reads start (bits_tree (b + 8) c) m n r → Reads start (integer_tree b c) m n r
integer_read b zero some x = absurd (some refl)
integer_read b (suc c) some x = x

pub fraction_read : {start : ℕ} {m n : Point} {r : Result ℕ ReadFault} (first k b : ℕ) (p : MvSubpelPrecision) (c d : ℕ) → (p ≡ precision.MV_SUBPEL_NONE → ⊥)
    → table first k ≡ table (fraction_first b c d) 4 → Reads start (one first k) m n r → Reads start (fraction_tree b p c d) m n r
fraction_read first k b precision.MV_SUBPEL_NONE c d some e x = absurd (some refl)
fraction_read first k b precision.MV_SUBPEL_LOW_PRECISION zero d some e x = named (table first k) (table (b + 28 + 4 * d) 4) e x
fraction_read first k b precision.MV_SUBPEL_HIGH_PRECISION zero d some e x = named (table first k) (table (b + 28 + 4 * d) 4) e x
fraction_read first k b precision.MV_SUBPEL_LOW_PRECISION (suc c) d some e x = named (table first k) (table (b + 36) 4) e x
fraction_read first k b precision.MV_SUBPEL_HIGH_PRECISION (suc c) d some e x = named (table first k) (table (b + 36) 4) e x

pub high_read : {start : ℕ} {m n : Point} {r : Result ℕ ReadFault} (first k b : ℕ) (p : MvSubpelPrecision) (c : ℕ) → p ≡ precision.MV_SUBPEL_HIGH_PRECISION
    → table first k ≡ table (high_first b c) 2 → Reads start (one first k) m n r → Reads start (high_tree b p c) m n r
high_read first k b precision.MV_SUBPEL_NONE c all e x = cc
high_read first k b precision.MV_SUBPEL_LOW_PRECISION c all e x = cc
high_read first k b precision.MV_SUBPEL_HIGH_PRECISION zero all e x = named (table first k) (table (b + 2) 2) e x
high_read first k b precision.MV_SUBPEL_HIGH_PRECISION (suc c) all e x = named (table first k) (table (b + 4) 2) e x

-- what is read, by the number that is made of it
pub as_wide : {start : ℕ} {t : Syntax ℕ} {m n : Point} (a b : ℕ) → b ≡ a → Reads start t m n (Ok a) → Reads start t m n (Ok b)
as_wide {start} {t} {m} {n} a b e x = subst (λ k. Reads start t m n (Ok k)) (sym e) x

-- a component that the joint says is there
pub coded_if : {start : ℕ} {m n : Point} {r : Result ℤ ReadFault} (b : ℕ) (p : MvSubpelPrecision) (q : Bool) → q ≡ true → Reads start (component_tree b p) m n r → Reads start (component_if q b p) m n r
coded_if {start} {m} {n} {r} b p q e x = subst (λ k. Reads start (component_if k b p) m n r) (sym e) x

-- which components a joint names, as the code asks
pub rows_named : (j : ℕ) → j < 4 → leb 2 j ≡ has_row j
rows_named zero h = refl
rows_named (suc zero) h = refl
rows_named (suc (suc zero)) h = refl
rows_named (suc (suc (suc zero))) h = refl
rows_named (suc (suc (suc (suc j)))) h = absurd (omega arith)

pub cols_named : (j : ℕ) → j < 4 → eqb (j % 2) 1 ≡ has_col j
cols_named zero h = refl
cols_named (suc zero) h = refl
cols_named (suc (suc zero)) h = refl
cols_named (suc (suc (suc zero))) h = refl
cols_named (suc (suc (suc (suc j)))) h = absurd (omega arith)

-- a component that is there where a test says so
pub present_as : {start : ℕ} {m n : Point} {r : Result ℤ ReadFault} (b : ℕ) (p : MvSubpelPrecision) (q h : Bool) → q ≡ h → Reads start (component_if q b p) m n r → Reads start (component_if h b p) m n r
present_as {start} {m} {n} {r} b p q h e x = subst (λ k. Reads start (component_if k b p) m n r) e x
