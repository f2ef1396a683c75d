-- What a run prints.
use Rattle.std.specs.Prelude.{ℕ, List, [], ◌++◌, Ok, Err, Some, None, codes, decimal, Option, Result}
use Rattle.std.specs.Fmt.{signed_decimal}
use Rattle.av1.specs.declared.refusal.Refusal.{Refusal}
use Rattle.av1.specs.declared.refusal.Refusal.TheVariants.{NotPacked}
use Rattle.av1.specs.Refusals.{number}
use Rattle.av1.specs.declared.call.Answer.{Answer}
use Rattle.av1.specs.declared.call.Answer.TheVariants.{Wrote, Segmented, Done, Opened}
use Rattle.av1.specs.declared.call.Call.{Call}
use Rattle.av1.specs.declared.call.Call.TheVariants.{Partition, Skip, Segment, Alphas, Vector, ContextUpdate, RowStart, Open, TakeBack, Keep}
use Rattle.av1.specs.declared.size.BlockSize.{BlockSize}
use Rattle.av1.specs.declared.tile.TileBlockOffset.{TileBlockOffset}
use Rattle.script.specs.Names.{size_name, partition_name, precision_name, flag_name}
use Rattle.script.specs.declared.report.SymbolPlace.{SymbolPlace}
use Rattle.script.specs.declared.report.Stop.{Stop}
use Rattle.script.specs.declared.report.Stop.TheVariants.{Refused, Symbol}

-- the answer of a call, after its line's number
abbrev pub answer_text : Result Answer Refusal → List ℕ
answer_text (Ok Done) = codes ": ok"
answer_text (Ok (Wrote n)) = codes ": ok " ++ decimal n
answer_text (Ok (Opened n)) = codes ": ok " ++ decimal n
answer_text (Ok (Segmented count segment)) = codes ": ok " ++ (decimal count ++ (codes " " ++ decimal segment))
answer_text (Err refusal) = codes ": refused " ++ decimal (number refusal)

-- where a block lies, and its size
abbrev pub block_text : TileBlockOffset → BlockSize → List ℕ
block_text bo z = decimal bo.x ++ (codes " " ++ (decimal bo.y ++ (codes " " ++ size_name z)))

-- a call as a line of a script; a skipped segment has its prediction in a comment
abbrev pub call_text : Call → ℕ → List ℕ
call_text (Partition bo z p) prediction = codes "partition " ++ (block_text bo z ++ (codes " " ++ partition_name p))
call_text (Skip bo z s) prediction = codes "skip " ++ (block_text bo z ++ (codes " " ++ flag_name s))
call_text (Segment bo z (Some id)) prediction = codes "segment " ++ (block_text bo z ++ (codes " " ++ decimal id))
call_text (Segment bo z None) prediction = codes "segment " ++ (block_text bo z ++ (codes " skipped # " ++ decimal prediction))
call_text (Alphas u v) prediction = codes "alphas " ++ (signed_decimal u ++ (codes " " ++ signed_decimal v))
call_text (Vector r c p) prediction = codes "vector " ++ (signed_decimal r ++ (codes " " ++ (signed_decimal c ++ (codes " " ++ precision_name p))))
call_text (ContextUpdate bo z b) prediction = codes "context " ++ (block_text bo z ++ (codes " " ++ size_name b))
call_text RowStart prediction = codes "row"
call_text Open prediction = codes "open"
call_text (TakeBack d) prediction = codes "back " ++ decimal d
call_text (Keep d) prediction = codes "keep " ++ decimal d

-- where a symbol is read
abbrev pub place_text : SymbolPlace → List ℕ
place_text s = codes "entry " ++ (decimal s.entry ++ (codes " of the decision, table " ++ (decimal s.table ++ (codes ", place " ++ decimal s.place))))

-- why reading stops; bytes that are no packed entries are told with the byte
abbrev pub stop_text : Stop → List ℕ
stop_text (Refused (NotPacked byte)) = codes "refused " ++ (decimal (number (NotPacked byte)) ++ (codes ", byte " ++ decimal byte))
stop_text (Refused why) = codes "refused " ++ decimal (number why)
stop_text (Symbol why at) = codes "refused " ++ (decimal (number why) ++ (codes ", " ++ place_text at))

-- behind the numbers of questions: why the next one was refused
abbrev pub stopped_text : Option Stop → List ℕ
stopped_text (Some stop) = codes ": " ++ stop_text stop
stopped_text None = []
