use Rattle.av1.specs.Sizes.{all_sizes}
use Rattle.script.specs.Names.{size_name, size_found}
use Rattle.script.proofs.Saying.{by_name}
use Rattle.script.proofs.name.BlockSizeNamed.from_name.Goals as goal

pub returns-clause-value : goal.returns-clause-value
returns-clause-value c = by_name size_name c.args.word.now all_sizes c.parse_size.result size_found c.parse_size.ensures
