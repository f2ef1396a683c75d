use Rattle.std.proofs.Common.{rules}
use Rattle.replay.proofs.Reading.{read_whole}
use Rattle.replay.proofs.read_back.PackedRecordReadBack.read_back.Goals as goal

pub returns-clause-read : goal.returns-clause-read
returns-clause-read c =
    let made = c.read_calls.ensures in
    read_whole c.read_calls.result _ _ _ _ _ _ _ _ _ _ (search rules) made.list (search rules) made.reading made.back
