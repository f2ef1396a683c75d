use Rattle.packed.proofs.Checking.{whole_passes, fails_once}
use Rattle.packed.proofs.bytes_fail_once.Goals as goal

pub returns : goal.returns
returns c = record { once = fails_once; never = whole_passes }
