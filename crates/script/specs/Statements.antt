-- What a line says, by its words.
use Rattle.std.specs.Prelude.{ℕ, Bool, cond, List, [], ◌∷◌, drop, ℤ, Some, None, Ok, Err, codes, Option, Result}
use Rattle.std.specs.Str.{bytes_eq}
use Rattle.av1.specs.declared.mv.MvSubpelPrecision.{MvSubpelPrecision}
use Rattle.av1.specs.declared.partition.PartitionType.{PartitionType}
use Rattle.av1.specs.declared.size.BlockSize.{BlockSize}
use Rattle.script.specs.declared.fault.Fault.{Fault}
use Rattle.script.specs.declared.fault.Fault.TheVariants as no
use Rattle.av1.specs.Sizes.{all_sizes}
use Rattle.av1.specs.declared.call.Call.{Call}
use Rattle.av1.specs.declared.call.Call.TheVariants.{Partition, Skip, Segment, Alphas, Vector, ContextUpdate, RowStart, Open, TakeBack, Keep}
use Rattle.av1.specs.declared.tile.TileBlockOffset.{TileBlockOffset}
use Rattle.script.specs.declared.statement.SinkKind.{SinkKind}
use Rattle.script.specs.declared.statement.SinkKind.TheVariants as sink
use Rattle.script.specs.declared.statement.Statement.{Statement}
use Rattle.script.specs.declared.statement.Statement.TheVariants as says
use Rattle.script.specs.declared.written.Written.{Written}
use Rattle.script.specs.declared.written.Written.TheVariants as write
use Rattle.script.specs.Names.{size_name, partition_name, precision_name, flag_name, partitions, precisions, flags, read_name}
use Rattle.script.specs.Numbers.{read_number, read_integer, some_number, read_id}

abbrev pub first : List (List ℕ) → Option (List ℕ)
first [] = None
first (w ∷ ws) = Some w

-- what is read goes on, and a fault stops it
abbrev pub and_then : {A B : Type 0} → Result A Fault → (A → Result B Fault) → Result B Fault
and_then (Ok a) k = k a
and_then (Err e) k = Err e

-- a word that has to be there
abbrev pub wanted : {A : Type 0} → (List ℕ → Result A Fault) → Option (List ℕ) → Result A Fault
wanted read None = Err no.MissingWord
wanted read (Some w) = read w

abbrev pub number_at : List (List ℕ) → Result ℕ Fault
number_at ws = wanted read_number (first ws)

abbrev pub integer_at : List (List ℕ) → Result ℤ Fault
integer_at ws = wanted read_integer (first ws)

abbrev pub id_at : List (List ℕ) → Result (Option ℕ) Fault
id_at ws = wanted read_id (first ws)

-- one of some values, by its name
abbrev pub named_at : {A : Type 0} → (A → List ℕ) → List A → Fault → List (List ℕ) → Result A Fault
named_at name all f ws = wanted (read_name name all f) (first ws)

abbrev pub size_at : List (List ℕ) → Result BlockSize Fault
size_at ws = named_at size_name all_sizes no.UnknownSize ws

abbrev pub partition_type_at : List (List ℕ) → Result PartitionType Fault
partition_type_at ws = named_at partition_name partitions no.UnknownPartition ws

abbrev pub precision_at : List (List ℕ) → Result MvSubpelPrecision Fault
precision_at ws = named_at precision_name precisions no.UnknownPrecision ws

abbrev pub flag_at : List (List ℕ) → Result Bool Fault
flag_at ws = named_at flag_name flags no.NotAFlag ws

-- no word may be there
abbrev pub unwanted : Option (List ℕ) → Result (Unit {0}) Fault
unwanted None = Ok tt
unwanted (Some w) = Err no.ExtraWord

abbrev pub end_at : List (List ℕ) → Result (Unit {0}) Fault
end_at ws = unwanted (first ws)

abbrev pub tile_at : List (List ℕ) → Result Statement Fault
tile_at ws =
    and_then (number_at ws) (λ c.
    and_then (number_at (drop 1 ws)) (λ r.
    and_then (number_at (drop 1 (drop 1 ws))) (λ l.
    and_then (end_at (drop 1 (drop 1 (drop 1 ws)))) (λ _. Ok (says.Tile (record { columns = c; rows = r; last = l }))))))

-- a sink of so many places or bytes, whose line ends behind the number
abbrev pub sized_at : (ℕ → SinkKind) → List (List ℕ) → Result Statement Fault
sized_at kind ws = and_then (number_at ws) (λ n. and_then (end_at (drop 1 ws)) (λ _. Ok (says.Sink (kind n))))

-- a sink of the kind w
abbrev pub sink_from : List ℕ → List (List ℕ) → Result Statement Fault
sink_from w ws =
    cond (bytes_eq w (codes "word")) (sized_at (λ n. sink.Word n) ws)
    (cond (bytes_eq w (codes "packed")) (sized_at (λ n. sink.Packed n) ws) (Err no.UnknownSink))

abbrev pub sink_at : List (List ℕ) → Result Statement Fault
sink_at ws = wanted (λ w. sink_from w (drop 1 ws)) (first ws)

-- how many records each lane has room for
abbrev pub log_at : List (List ℕ) → Result Statement Fault
log_at ws =
    and_then (number_at ws) (λ a.
    and_then (number_at (drop 1 ws)) (λ b.
    and_then (number_at (drop 1 (drop 1 ws))) (λ c.
    and_then (end_at (drop 1 (drop 1 (drop 1 ws)))) (λ _. Ok (says.Log (record { small = a; large = b; spots = c }))))))

-- a block's column and row
abbrev pub offset_at : List (List ℕ) → Result TileBlockOffset Fault
offset_at ws = and_then (number_at ws) (λ x. and_then (number_at (drop 1 ws)) (λ y. Ok (record { x = x; y = y })))

-- a block's column, row and size, and what follows them
abbrev pub block_then : (TileBlockOffset → BlockSize → List (List ℕ) → Result Statement Fault) → List (List ℕ) → Result Statement Fault
block_then k ws =
    and_then (offset_at ws) (λ bo.
    and_then (size_at (drop 1 (drop 1 ws))) (λ z. k bo z (drop 1 (drop 1 (drop 1 ws)))))

-- a call whose line ends here
abbrev pub written_at : Written → List (List ℕ) → Result Statement Fault
written_at call ws = and_then (end_at ws) (λ _. Ok (says.Call call))

abbrev pub call_at : Call → List (List ℕ) → Result Statement Fault
call_at call ws = written_at (write.Call call) ws

abbrev pub partition_at : List (List ℕ) → Result Statement Fault
partition_at ws = block_then (λ bo z vs. and_then (partition_type_at vs) (λ p. call_at (Partition bo z p) (drop 1 vs))) ws

abbrev pub skip_at : List (List ℕ) → Result Statement Fault
skip_at ws = block_then (λ bo z vs. and_then (flag_at vs) (λ s. call_at (Skip bo z s) (drop 1 vs))) ws

abbrev pub segment_at : List (List ℕ) → Result Statement Fault
segment_at ws = block_then (λ bo z vs. and_then (id_at vs) (λ i. call_at (Segment bo z i) (drop 1 vs))) ws

abbrev pub alphas_at : List (List ℕ) → Result Statement Fault
alphas_at ws =
    and_then (integer_at ws) (λ u.
    and_then (integer_at (drop 1 ws)) (λ v. call_at (Alphas u v) (drop 1 (drop 1 ws))))

abbrev pub vector_at : List (List ℕ) → Result Statement Fault
vector_at ws =
    and_then (integer_at ws) (λ r.
    and_then (integer_at (drop 1 ws)) (λ c.
    and_then (precision_at (drop 1 (drop 1 ws))) (λ p. call_at (Vector r c p) (drop 1 (drop 1 (drop 1 ws))))))

abbrev pub context_at : List (List ℕ) → Result Statement Fault
context_at ws = block_then (λ bo z vs. and_then (size_at vs) (λ b. call_at (ContextUpdate bo z b) (drop 1 vs))) ws

abbrev pub row_at : List (List ℕ) → Result Statement Fault
row_at ws = call_at RowStart ws

-- a depth, which may be left out
abbrev pub depth_from : Option (List ℕ) → Result (Option ℕ) Fault
depth_from None = Ok None
depth_from (Some w) = some_number (read_number w)

abbrev pub depth_at : List (List ℕ) → Result (Option ℕ) Fault
depth_at ws = depth_from (first ws)

-- a trial is taken back, or kept: that of the depth, or else the innermost one
abbrev pub taken_back : Option ℕ → Written
taken_back None = write.TakeBackInnermost
taken_back (Some depth) = write.Call (TakeBack depth)

abbrev pub kept : Option ℕ → Written
kept None = write.KeepInnermost
kept (Some depth) = write.Call (Keep depth)

abbrev pub take_back_at : List (List ℕ) → Result Statement Fault
take_back_at ws = and_then (depth_at ws) (λ d. written_at (taken_back d) (drop 1 ws))

abbrev pub keep_at : List (List ℕ) → Result Statement Fault
keep_at ws = and_then (depth_at ws) (λ d. written_at (kept d) (drop 1 ws))

-- the call that is made where so many trials are open
abbrev pub call_of : ℕ → Written → Call
call_of trials (write.Call call) = call
call_of trials write.TakeBackInnermost = TakeBack trials
call_of trials write.KeepInnermost = Keep trials

-- a line that begins with the word w and goes on with ws
abbrev pub said : List ℕ → List (List ℕ) → Result Statement Fault
said w ws =
    cond (bytes_eq w (codes "tile")) (tile_at ws)
    (cond (bytes_eq w (codes "sink")) (sink_at ws)
    (cond (bytes_eq w (codes "log")) (log_at ws)
    (cond (bytes_eq w (codes "partition")) (partition_at ws)
    (cond (bytes_eq w (codes "skip")) (skip_at ws)
    (cond (bytes_eq w (codes "segment")) (segment_at ws)
    (cond (bytes_eq w (codes "alphas")) (alphas_at ws)
    (cond (bytes_eq w (codes "vector")) (vector_at ws)
    (cond (bytes_eq w (codes "context")) (context_at ws)
    (cond (bytes_eq w (codes "row")) (row_at ws)
    (cond (bytes_eq w (codes "open")) (call_at Open ws)
    (cond (bytes_eq w (codes "back")) (take_back_at ws)
    (cond (bytes_eq w (codes "keep")) (keep_at ws)
    (Err no.UnknownWord)))))))))))))

abbrev pub statement_from : Option (List ℕ) → List (List ℕ) → Result Statement Fault
statement_from None ws = Ok says.Blank
statement_from (Some w) ws = said w ws

abbrev pub statement_of : List (List ℕ) → Result Statement Fault
statement_of ws = statement_from (first ws) (drop 1 ws)
