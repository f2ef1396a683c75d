use Rattle.script.specs.Names.{precision_name, precisions, precision_found}
use Rattle.script.proofs.Saying.{by_name}
use Rattle.script.proofs.name.MvSubpelPrecisionNamed.from_name.Goals as goal

pub returns-clause-value : goal.returns-clause-value
returns-clause-value c = by_name precision_name c.args.word.now precisions c.parse_precision.result precision_found c.parse_precision.ensures
