use Rattle.std.proofs.Common.{ap, ◌∙◌, rules}
use Rattle.journal.specs.declared.spots.Places.{Places}
use Rattle.journal.specs.Spots.{area_of}
use Rattle.journal.specs.Walks.{visited}
use Rattle.journal.proofs.Targets.{places_walk}
use Rattle.journal.proofs.spots.undo_spots.Goals as goal

pub returns-clause-state : goal.returns-clause-state
returns-clause-state c =
    let walk = c.undo.ensures.state ∙ places_walk (visited c.args.from c.args.upto c.args.lane.now) _ in
    let names_above = ap (λ (p : Places). p.above.ghost_name) walk in
    let names_left = ap (λ (p : Places). p.left.ghost_name) walk in
    let names_cells = ap (λ (p : Places). p.cells.ghost_name) walk in
    let area = ap area_of walk in
    search rules
