-- The names of sizes, partitions, precisions, flags, calls and statements.
use Rattle.std.specs.Prelude.{◌≡◌, ℕ, Bool, true, false, List, [], ◌∷◌, Some, codes, Option, Result, refl}
use Rattle.std.specs.List.{find}
use Rattle.std.specs.Option.{ok_or}
use Rattle.std.specs.Str.{bytes_eq}
use Rattle.av1.specs.Sizes.{all_sizes}
use Rattle.av1.specs.declared.call.Call.{Call}
use Rattle.av1.specs.declared.call.Call.TheVariants.{Partition, Skip, Segment, Alphas, Vector, ContextUpdate, RowStart, Open, TakeBack, Keep}
use Rattle.script.specs.declared.fault.Fault.{Fault}
use Rattle.script.specs.declared.statement.Statement.{Statement}
use Rattle.script.specs.declared.statement.Statement.TheVariants as says
use Rattle.script.specs.declared.written.Written.{Written}
use Rattle.script.specs.declared.written.Written.TheVariants as write
use Rattle.av1.specs.declared.mv.MvSubpelPrecision.{MvSubpelPrecision}
use Rattle.av1.specs.declared.mv.MvSubpelPrecision.TheVariants.{MV_SUBPEL_NONE, MV_SUBPEL_LOW_PRECISION, MV_SUBPEL_HIGH_PRECISION}
use Rattle.av1.specs.declared.partition.PartitionType.{PartitionType}
use Rattle.av1.specs.declared.partition.PartitionType.TheVariants.{PARTITION_NONE, PARTITION_HORZ, PARTITION_VERT, PARTITION_SPLIT, PARTITION_HORZ_A, PARTITION_HORZ_B, PARTITION_VERT_A, PARTITION_VERT_B, PARTITION_HORZ_4, PARTITION_VERT_4}
use Rattle.av1.specs.declared.size.BlockSize.{BlockSize}
use Rattle.av1.specs.declared.size.BlockSize.TheVariants.{BLOCK_4X4, BLOCK_4X8, BLOCK_8X4, BLOCK_8X8, BLOCK_8X16, BLOCK_16X8, BLOCK_16X16, BLOCK_16X32, BLOCK_32X16, BLOCK_32X32, BLOCK_32X64, BLOCK_64X32, BLOCK_64X64, BLOCK_64X128, BLOCK_128X64, BLOCK_128X128, BLOCK_4X16, BLOCK_16X4, BLOCK_8X32, BLOCK_32X8, BLOCK_16X64, BLOCK_64X16}

abbrev pub size_name : BlockSize → List ℕ
size_name BLOCK_4X4 = codes "4X4"
size_name BLOCK_4X8 = codes "4X8"
size_name BLOCK_8X4 = codes "8X4"
size_name BLOCK_8X8 = codes "8X8"
size_name BLOCK_8X16 = codes "8X16"
size_name BLOCK_16X8 = codes "16X8"
size_name BLOCK_16X16 = codes "16X16"
size_name BLOCK_16X32 = codes "16X32"
size_name BLOCK_32X16 = codes "32X16"
size_name BLOCK_32X32 = codes "32X32"
size_name BLOCK_32X64 = codes "32X64"
size_name BLOCK_64X32 = codes "64X32"
size_name BLOCK_64X64 = codes "64X64"
size_name BLOCK_64X128 = codes "64X128"
size_name BLOCK_128X64 = codes "128X64"
size_name BLOCK_128X128 = codes "128X128"
size_name BLOCK_4X16 = codes "4X16"
size_name BLOCK_16X4 = codes "16X4"
size_name BLOCK_8X32 = codes "8X32"
size_name BLOCK_32X8 = codes "32X8"
size_name BLOCK_16X64 = codes "16X64"
size_name BLOCK_64X16 = codes "64X16"

abbrev pub partition_name : PartitionType → List ℕ
partition_name PARTITION_NONE = codes "NONE"
partition_name PARTITION_HORZ = codes "HORZ"
partition_name PARTITION_VERT = codes "VERT"
partition_name PARTITION_SPLIT = codes "SPLIT"
partition_name PARTITION_HORZ_A = codes "HORZ_A"
partition_name PARTITION_HORZ_B = codes "HORZ_B"
partition_name PARTITION_VERT_A = codes "VERT_A"
partition_name PARTITION_VERT_B = codes "VERT_B"
partition_name PARTITION_HORZ_4 = codes "HORZ_4"
partition_name PARTITION_VERT_4 = codes "VERT_4"

abbrev pub precision_name : MvSubpelPrecision → List ℕ
precision_name MV_SUBPEL_NONE = codes "NONE"
precision_name MV_SUBPEL_LOW_PRECISION = codes "LOW"
precision_name MV_SUBPEL_HIGH_PRECISION = codes "HIGH"

abbrev pub flag_name : Bool → List ℕ
flag_name false = codes "0"
flag_name true = codes "1"

abbrev pub partitions : List PartitionType
partitions = PARTITION_NONE ∷ PARTITION_HORZ ∷ PARTITION_VERT ∷ PARTITION_SPLIT ∷ PARTITION_HORZ_A ∷ PARTITION_HORZ_B ∷ PARTITION_VERT_A ∷ PARTITION_VERT_B ∷ PARTITION_HORZ_4 ∷ PARTITION_VERT_4 ∷ []

abbrev pub precisions : List MvSubpelPrecision
precisions = MV_SUBPEL_NONE ∷ MV_SUBPEL_LOW_PRECISION ∷ MV_SUBPEL_HIGH_PRECISION ∷ []

abbrev pub flags : List Bool
flags = false ∷ true ∷ []

-- the first of some values whose name is the word
abbrev pub among : {A : Type 0} → (A → List ℕ) → List A → List ℕ → Option A
among name all w = find (λ a. bytes_eq w (name a)) all

-- the value that the word names, and else the fault
abbrev pub read_name : {A : Type 0} → (A → List ℕ) → List A → Fault → List ℕ → Result A Fault
read_name name all f w = ok_or (among name all w) f

-- each name finds its value
pub size_found : (z : BlockSize) → among size_name all_sizes (size_name z) ≡ Some z
size_found BLOCK_4X4 = refl
size_found BLOCK_4X8 = refl
size_found BLOCK_8X4 = refl
size_found BLOCK_8X8 = refl
size_found BLOCK_8X16 = refl
size_found BLOCK_16X8 = refl
size_found BLOCK_16X16 = refl
size_found BLOCK_16X32 = refl
size_found BLOCK_32X16 = refl
size_found BLOCK_32X32 = refl
size_found BLOCK_32X64 = refl
size_found BLOCK_64X32 = refl
size_found BLOCK_64X64 = refl
size_found BLOCK_64X128 = refl
size_found BLOCK_128X64 = refl
size_found BLOCK_128X128 = refl
size_found BLOCK_4X16 = refl
size_found BLOCK_16X4 = refl
size_found BLOCK_8X32 = refl
size_found BLOCK_32X8 = refl
size_found BLOCK_16X64 = refl
size_found BLOCK_64X16 = refl

pub partition_found : (p : PartitionType) → among partition_name partitions (partition_name p) ≡ Some p
partition_found PARTITION_NONE = refl
partition_found PARTITION_HORZ = refl
partition_found PARTITION_VERT = refl
partition_found PARTITION_SPLIT = refl
partition_found PARTITION_HORZ_A = refl
partition_found PARTITION_HORZ_B = refl
partition_found PARTITION_VERT_A = refl
partition_found PARTITION_VERT_B = refl
partition_found PARTITION_HORZ_4 = refl
partition_found PARTITION_VERT_4 = refl

pub precision_found : (p : MvSubpelPrecision) → among precision_name precisions (precision_name p) ≡ Some p
precision_found MV_SUBPEL_NONE = refl
precision_found MV_SUBPEL_LOW_PRECISION = refl
precision_found MV_SUBPEL_HIGH_PRECISION = refl

pub flag_found : (b : Bool) → among flag_name flags (flag_name b) ≡ Some b
flag_found false = refl
flag_found true = refl

abbrev pub call_name : Call → List ℕ
call_name (Partition bo z p) = codes "partition"
call_name (Skip bo z s) = codes "skip"
call_name (Segment bo z i) = codes "segment"
call_name (Alphas u v) = codes "alphas"
call_name (Vector r c p) = codes "vector"
call_name (ContextUpdate bo z b) = codes "context"
call_name RowStart = codes "row"
call_name Open = codes "open"
call_name (TakeBack d) = codes "back"
call_name (Keep d) = codes "keep"

-- a call as a line writes it
abbrev pub written_name : Written → List ℕ
written_name (write.Call call) = call_name call
written_name write.TakeBackInnermost = codes "back"
written_name write.KeepInnermost = codes "keep"

abbrev pub statement_name : Statement → List ℕ
statement_name says.Blank = []
statement_name (says.Tile t) = codes "tile"
statement_name (says.Sink n) = codes "sink"
statement_name (says.Log n) = codes "log"
statement_name (says.Call call) = written_name call
