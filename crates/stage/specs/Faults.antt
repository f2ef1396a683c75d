-- Why a read stops, in the model's terms.
use Rattle.std.specs.Prelude.{ℕ, Ok, Err, Result}
use Rattle.av1.specs.declared.refusal.Refusal.{Refusal}
use Rattle.av1.specs.declared.refusal.Refusal.TheVariants as no
use Rattle.av1.specs.Refusals as refusal
use Rattle.model.specs.Runs.{Stop, turned, fault}
use Rattle.model.specs.Tree.{Fault}
use Rattle.record.specs.Sources.{refusal_of, place_of}
use Rattle.stage.specs.declared.reader.fault.ReadError.{ReadError}
use Rattle.stage.specs.declared.reader.fault.ReadError.TheVariants as error
use Rattle.stage.specs.declared.reader.fault.ReadFault.{ReadFault}
use Rattle.stage.specs.declared.reader.fault.ReadFault.TheVariants as told

-- the refusal, the entry's number in its decision, the first word of its table and its place
abbrev pub fault_of : ReadFault → Fault
fault_of (told.Symbol symbol entry) = record { why = refusal_of symbol.source; entry = entry; table = symbol.table; place = place_of symbol.source }
fault_of (told.AboveLast entry table place) = record { why = no.SymbolAboveLast; entry = entry; table = table; place = place }

abbrev pub stop_of : ReadError → Stop
stop_of (error.Refused n) = turned n
stop_of (error.Fault f) = fault (fault_of f)

abbrev pub why_of : Stop → Refusal
why_of (turned n) = n
why_of (fault f) = f.why

abbrev pub number : ReadError → ℕ
number e = refusal.number (why_of (stop_of e))

-- what a read answers, by what its decision is in the model
abbrev pub seen_by : {A B : Type 0} → (A → B) → Result A ReadError → Result B Stop
seen_by f (Ok a) = Ok (f a)
seen_by f (Err e) = Err (stop_of e)

abbrev pub seen : {D : Type 0} → Result D ReadError → Result D Stop
seen r = seen_by (λ d. d) r

-- a call that reads no symbol stops at a question only
abbrev pub turned_by : {A : Type 0} → Result A Refusal → Result A Stop
turned_by (Ok a) = Ok a
turned_by (Err n) = Err (turned n)
