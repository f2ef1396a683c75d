use Rattle.packed.proofs.Checking.{fewer}
use Rattle.limits.proofs.list_entries.Goals as goal

pub loop-s-smaller : goal.loop-s-smaller
loop-s-smaller c = fewer c.loop-s.rest.now c.in-Some.behind.now c.in-Some.field-0-0 c.in-Some.ensures.1
