-- Reading in a stage: what the symbols of a syntax were read as, and what that made of the stage and the source.
use Rattle.std.specs.Prelude.{◌≡◌, ℕ, ◌-◌, ◌<◌, ◌≤◌, false, List, [], drop, is_ok, IfOk, Ok, Err, Result}
use Rattle.av1.specs.declared.tile.Block.{Block}
use Rattle.cdf.specs.declared.entry.Entry.{Entry}
use Rattle.model.specs.Coders.{Coder, symbols}
use Rattle.model.specs.Decisions.{State, block_cells}
use Rattle.model.specs.Facts.{with_cells}
use Rattle.model.specs.Tree.{Answer, Syntax, coded, done, faulty, read, read_as}
use Rattle.stage.specs.declared.reader.fault.ReadFault.{ReadFault}
use Rattle.stage.specs.declared.reader.fault.ReadFault.TheVariants as fault
use Rattle.stage.specs.declared.reader.fault.SymbolFault.{SymbolFault}
use Rattle.stage.specs.declared.state.Stage.{Stage}
use Rattle.stage.specs.declared.state.cells.Change.{Change}
use Rattle.stage.specs.Cells.{change_each, logged_cells}
use Rattle.stage.specs.Faults.{fault_of}

-- a stage with the list of a source and the place in it
pub record Point : Type 0 where
  pub stage : Stage
  pub list : List Entry
  pub place : ℕ

abbrev pub point : Stage → List Entry → ℕ → Point
point s es p = record { stage = s; list = es; place = p }

-- the entries from the place on
abbrev pub ahead : Point → List Entry
ahead m = drop m.place m.list

-- a stage differs from another in its tables at most
pub record OnlyTables (s t : Stage) : Type 0 where
  pub tile : s.tile ≡ t.tile
  pub last : s.last ≡ t.last
  pub contexts : s.contexts ≡ t.contexts
  pub journal : s.journal ≡ t.journal

-- what was read, as the model answers it
abbrev pub told : {D : Type 0} → Result D ReadFault → Point → Answer D
told (Ok d) n = read_as d n.stage.tables.words (ahead n) n.place
told (Err f) n = faulty (fault_of f)

-- from one point to another a syntax was read, in a decision that began at place `start`; where that stopped, the tables and the place are those then
pub record Reads {D : Type 0} (start : ℕ) (t : Syntax D) (m n : Point) (r : Result D ReadFault) : Type 0 where
  pub answer : (last : ℕ) → told r n ≡ read m.stage.tables.words t start last m.place (ahead m)
  pub list : n.list ≡ m.list
  pub on : m.place ≤ n.place
  pub kept : OnlyTables n.stage m.stage

-- a syntax of one symbol
abbrev pub symbol_tree : Coder → Syntax ℕ
symbol_tree k = coded k (λ s. done s)

-- a result with something made of its value
abbrev pub mapped : {A B E : Type 0} → (A → B) → Result A E → Result B E
mapped f (Ok a) = Ok (f a)
mapped f (Err e) = Err e

-- a symbol's fault, with the number of its entry
abbrev pub beside : ℕ → Result ℕ SymbolFault → Result ℕ ReadFault
beside entry (Ok s) = Ok s
beside entry (Err f) = Err (fault.Symbol f entry)

-- from one point to another a symbol was read by a coder, or nothing has changed
pub record Took (k : Coder) (m n : Point) (r : Result ℕ SymbolFault) : Type 0 where
  pub reads : (start : ℕ) → Reads start (symbol_tree k) m n (beside (m.place - start) r)
  pub below : IfOk r (λ s. s < symbols k)
  pub still : is_ok r ≡ false → (n.stage ≡ m.stage) × (n.place ≡ m.place)

-- a block's cells changed one after the other, while nothing is logged
abbrev pub block_set : Change → Block → State → State
block_set k b s =
    with_cells s (change_each [] k (block_cells s.columns b.width b.from b.height) (logged_cells s.cells [] 0)).cells
