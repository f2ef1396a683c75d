use Rattle.replay.proofs.Questions.{told_first, questions_rise}
use Rattle.replay.proofs.first_no_is_told.Goals as goal

pub returns : goal.returns
returns c = record { told = told_first; rise = questions_rise }
