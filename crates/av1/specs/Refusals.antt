-- The numbers of the refusals.
use Rattle.std.specs.Prelude.{ℕ, Ok, Err, Result}
use Rattle.av1.specs.declared.refusal.Refusal.{Refusal}
use Rattle.av1.specs.declared.refusal.Refusal.TheVariants as no

abbrev pub number : Refusal → ℕ
number no.TileSize = 1
number no.LastSegment = 2
number no.MapMemory = 3
number no.BlockSize = 4
number no.Position = 5
number no.Partition = 6
number no.Segment = 7
number no.Alphas = 8
number no.VectorRange = 9
number no.VectorPrecision = 10
number no.Room = 11
number no.LogRoom = 12
number no.TooManyTrials = 13
number no.NotInnermost = 14
number no.EntriesGone = 15
number no.TrialOpen = 16
number no.RecordFull = 17
number no.NoSuchEntry = 18
number no.NoNextEntry = 19
number no.EntryUnfit = 20
number no.SymbolAboveLast = 21
number no.NotAnEntry = 22
number (no.NotPacked byte) = 22

-- a result with its value left out: what was refused, and with what
abbrev pub verdict : {A : Type 0} → Result A Refusal → Result (Unit {0}) Refusal
verdict (Ok a) = Ok tt
verdict (Err e) = Err e
