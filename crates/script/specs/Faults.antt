-- The messages of a script's faults.
use Rattle.std.specs.Prelude.{◌≡◌, ℕ, List, ◌++◌, string_bytes, codes, decimal}
use Rattle.script.specs.declared.fault.Fault.{Fault}
use Rattle.script.specs.declared.fault.Fault.TheVariants as no
use Rattle.script.specs.declared.fault.ScriptError.{ScriptError}
use Rattle.script.specs.declared.fault.ScriptError.TheVariants.{Memory, Line}

abbrev pub fault_text : Fault → List ℕ
fault_text no.UnknownWord = codes "unknown word"
fault_text no.MissingWord = codes "missing word after"
fault_text no.ExtraWord = codes "word too much:"
fault_text no.NotANumber = codes "not a number:"
fault_text no.NumberTooLarge = codes "number too large:"
fault_text no.NegativeNumber = codes "negative number"
fault_text no.UnknownSize = codes "unknown size"
fault_text no.UnknownPartition = codes "unknown partition"
fault_text no.UnknownPrecision = codes "unknown precision"
fault_text no.NotAFlag = codes "neither 0 nor 1:"
fault_text no.UnknownSink = codes "unknown sink"
fault_text no.NoTile = codes "no tile line before"
fault_text no.SecondTile = codes "second tile line:"
fault_text no.SecondSink = codes "second sink line:"
fault_text no.SecondLog = codes "second log line:"
fault_text no.Late = codes "after the first call:"

abbrev pub error_text : ScriptError → List ℕ
error_text Memory = codes "out of memory"
error_text (Line line fault word) =
    codes "line " ++ (decimal line ++ (codes ": " ++ (fault_text fault ++ (codes " '" ++ (string_bytes word ++ codes "'")))))

-- the fault of a line at a word, unless memory failed
abbrev pub Faulty : ℕ → Fault → List ℕ → ScriptError → Type 0
Faulty line fault word Memory = Unit {0}
Faulty line fault word (Line l f w) = (l ≡ line) × (f ≡ fault) × (string_bytes w ≡ word)
