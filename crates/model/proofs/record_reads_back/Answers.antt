use Rattle.model.proofs.Staged.{stage_reads_record}
use Rattle.model.proofs.record_reads_back.Goals as goal

pub returns : goal.returns
returns c = stage_reads_record
