-- What the lines of a script set, and the script that they make.
use Rattle.std.specs.Prelude.{◌≡◌, ℕ, ◌+◌, ◌<◌, true, false, cond, ◌⊎◌, List, [], ◌∷◌, ◌++◌, length, is_some, Some, None, Ok, Err, vec_items, fold, Option, Result}
use Rattle.std.specs.Option.{unwrap_or}
use Rattle.std.specs.Str.Lines as lines
use Rattle.std.specs.Result as results
use Rattle.script.specs.declared.fault.Fault.{Fault}
use Rattle.script.specs.declared.fault.Fault.TheVariants as no
use Rattle.script.specs.declared.fault.ScriptError.{ScriptError}
use Rattle.script.specs.declared.fault.ScriptError.TheVariants as error
use Rattle.script.specs.declared.head.Head.{Head}
use Rattle.script.specs.declared.parse.Line.{Line}
use Rattle.script.specs.declared.parse.Script.{Script}
use Rattle.journal.specs.declared.Counts.{Counts}
use Rattle.script.specs.declared.statement.SinkKind.{SinkKind}
use Rattle.script.specs.declared.statement.SinkKind.TheVariants as sink
use Rattle.script.specs.declared.statement.Statement.{Statement}
use Rattle.script.specs.declared.statement.Statement.TheVariants as says
use Rattle.script.specs.declared.written.Written.{Written}
use Rattle.script.specs.Splits.{words_of}
use Rattle.script.specs.Statements.{and_then, statement_of}

-- nothing is set yet
abbrev pub start : Head
start = record { tile = None; sink = None; log = None; called = false }

-- whether a statement may stand here, and the call that it makes
abbrev pub settled : Head → Statement → Result (Option Written) Fault
settled h says.Blank = Ok None
settled h (says.Tile t) = cond (is_some h.tile) (Err no.SecondTile) (Ok None)
settled h (says.Sink n) =
    cond (is_some h.tile) (cond h.called (Err no.Late) (cond (is_some h.sink) (Err no.SecondSink) (Ok None))) (Err no.NoTile)
settled h (says.Log n) =
    cond (is_some h.tile) (cond h.called (Err no.Late) (cond (is_some h.log) (Err no.SecondLog) (Ok None))) (Err no.NoTile)
settled h (says.Call call) = cond (is_some h.tile) (Ok (Some call)) (Err no.NoTile)

-- what is set after a statement that may stand here
abbrev pub head_after : Head → Statement → Head
head_after h says.Blank = h
head_after h (says.Tile t) = record { tile = Some t; sink = h.sink; log = h.log; called = h.called }
head_after h (says.Sink n) = record { tile = h.tile; sink = Some n; log = h.log; called = h.called }
head_after h (says.Log n) = record { tile = h.tile; sink = h.sink; log = Some n; called = h.called }
head_after h (says.Call call) = record { tile = h.tile; sink = h.sink; log = h.log; called = true }

-- what the line says
abbrev pub spoken : List ℕ → Result Statement Fault
spoken line = statement_of (words_of line)

-- the fault f of line n, or no memory
abbrev pub Told : ℕ → Fault → ScriptError → Type 0
Told n f error.Memory = Unit {0}
Told n f (error.Line l g w) = (l ≡ n) × (g ≡ f)

-- what line n comes to is the fault f, of line k
abbrev pub Rejects : ℕ → Result (Option Written) Fault → ℕ → Fault → Type 0
Rejects n (Ok call) k f = ⊥
Rejects n (Err g) k f = (k ≡ n) × (f ≡ g)

abbrev pub Refuses : ℕ → Result (Option Written) Fault → ScriptError → Type 0
Refuses n r error.Memory = Unit {0}
Refuses n r (error.Line k f w) = Rejects n r k f

-- what reading a line comes to: the call that it makes and what is set then, or its fault
abbrev pub ReadsLine : Head → ℕ → List ℕ → Result (Option Written) ScriptError → Head → Type 0
ReadsLine h n line r g =
    results.MatchResult r
    (λ call. (st : Statement) × (spoken line ≡ Ok st) × (settled h st ≡ Ok call) × (g ≡ head_after h st))
    (λ e. Refuses n (and_then (spoken line) (settled h)) e)

-- after some lines: the number of the last one, what is set, and the calls
pub record Progress : Type 0 where
  pub number : ℕ
  pub head : Head
  pub calls : List Line

abbrev pub at_first : Progress
at_first = record { number = 0; head = start; calls = [] }

abbrev pub numbered : ℕ → Option Written → List Line
numbered n None = []
numbered n (Some call) = record { number = n; written = call } ∷ []

-- a statement on the next line, with what it comes to
abbrev pub placed : Progress → Statement → Result (Option Written) Fault → Result Progress (ℕ × Fault)
placed p st (Ok call) = Ok (record { number = p.number + 1; head = head_after p.head st; calls = p.calls ++ numbered (p.number + 1) call })
placed p st (Err f) = Err (p.number + 1, f)

abbrev pub stated : Progress → Result Statement Fault → Result Progress (ℕ × Fault)
stated p (Ok st) = placed p st (settled p.head st)
stated p (Err f) = Err (p.number + 1, f)

-- one line more; the first fault, with its line's number, stays
abbrev pub line_more : Result Progress (ℕ × Fault) → List ℕ → Result Progress (ℕ × Fault)
line_more (Ok p) line = stated p (spoken line)
line_more (Err e) line = Err e

abbrev pub read_lines : List (List ℕ) → Result Progress (ℕ × Fault)
read_lines ls = fold line_more (Ok at_first) ls

-- ls are the first lines of a text, and rest follows them
abbrev pub Lines : List ℕ → List (List ℕ) → List ℕ → Type 0
Lines text [] rest = text ≡ rest
Lines text (l ∷ ls) rest = (more : List ℕ) × (0 < length text) × lines.IsFirstLine text l more × Lines more ls rest

-- the sink, and how many records the lanes have room for, where no line says it
abbrev pub usual_sink : SinkKind
usual_sink = sink.Packed 16777216

abbrev pub usual_log : Counts
usual_log = record { small = 65536; large = 4096; spots = 1048576 }

-- the script that the lines make
pub record Scripted (p : Progress) (s : Script) : Type 0 where
  pub tile : p.head.tile ≡ Some (record { columns = s.columns; rows = s.rows; last = s.last })
  pub sink : s.sink ≡ unwrap_or p.head.sink usual_sink
  pub log : s.log ≡ unwrap_or p.head.log usual_log
  pub calls : vec_items s.lines ≡ p.calls

-- the script that all lines of the text make
pub record ReadsScript (text : List ℕ) (s : Script) : Type 0 where
  pub lines : List (List ℕ)
  pub progress : Progress
  pub whole : Lines text lines []
  pub read : read_lines lines ≡ Ok progress
  pub made : Scripted progress s

-- line n has the fault f, or the text ends before it with no line for the tile
abbrev pub Blames : List (List ℕ) → List ℕ → ℕ → Fault → Type 0
Blames ls rest n f =
    (read_lines ls ≡ Err (n, f))
    ⊎ ((rest ≡ []) × (p : Progress) × (read_lines ls ≡ Ok p) × (p.head.tile ≡ None) × (n ≡ p.number + 1) × (f ≡ no.NoTile))

abbrev pub Fails : List ℕ → ScriptError → Type 0
Fails text error.Memory = Unit {0}
Fails text (error.Line n f w) = (ls : List (List ℕ)) × (rest : List ℕ) × Lines text ls rest × Blames ls rest n f

-- the script of the text, or the first fault in it, unless memory failed
abbrev pub Parses : List ℕ → Result Script ScriptError → Type 0
Parses text r = results.MatchResult r (λ s. ReadsScript text s) (λ e. Fails text e)

-- the end of the text, at line n
abbrev pub Finishes : Head → ℕ → List Line → Result Script ScriptError → Type 0
Finishes h n calls r =
    results.MatchResult r
    (λ s. Scripted (record { number = n; head = h; calls = calls }) s)
    (λ e. (h.tile ≡ None) × Told n no.NoTile e)
