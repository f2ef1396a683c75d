-- Partitions by the standard's numbers.
use Rattle.std.specs.Prelude.{ℕ}
use Rattle.av1.specs.declared.partition.PartitionType.{PartitionType}
use Rattle.av1.specs.declared.partition.PartitionType.TheVariants.{PARTITION_NONE, PARTITION_HORZ, PARTITION_VERT, PARTITION_SPLIT, PARTITION_HORZ_A, PARTITION_HORZ_B, PARTITION_VERT_A, PARTITION_VERT_B, PARTITION_HORZ_4, PARTITION_VERT_4}

abbrev pub number : PartitionType → ℕ
number PARTITION_NONE = 0
number PARTITION_HORZ = 1
number PARTITION_VERT = 2
number PARTITION_SPLIT = 3
number PARTITION_HORZ_A = 4
number PARTITION_HORZ_B = 5
number PARTITION_VERT_A = 6
number PARTITION_VERT_B = 7
number PARTITION_HORZ_4 = 8
number PARTITION_VERT_4 = 9
