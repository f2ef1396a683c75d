use Rattle.script.specs.Names.{partition_name, partitions, partition_found}
use Rattle.script.proofs.Saying.{by_name}
use Rattle.script.proofs.name.PartitionTypeNamed.from_name.Goals as goal

pub returns-clause-value : goal.returns-clause-value
returns-clause-value c = by_name partition_name c.args.word.now partitions c.parse_partition.result partition_found c.parse_partition.ensures
