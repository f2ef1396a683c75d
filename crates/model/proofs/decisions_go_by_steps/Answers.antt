use Rattle.std.proofs.Common.{ℤ}
use Rattle.model.proofs.Stepping.{by_steps, steps_then}
use Rattle.model.proofs.Trees.{read_then, read_map}
use Rattle.model.proofs.decisions_go_by_steps.Goals as goal

pub returns : goal.returns
returns c = record { by_steps = by_steps; steps_then = steps_then ℤ (ℤ × ℤ); read_then = read_then ℤ (ℤ × ℤ); read_by = read_map ℤ (ℤ × ℤ) }
