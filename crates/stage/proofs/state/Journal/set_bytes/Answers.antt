use Rattle.std.proofs.Common.{ℕ, ◌+◌, ◌<◌, [], ◌∷◌, set, ap, ◌∙◌, arith, rules}
use Rattle.std.proofs.lemmas.List.{length-set}
use Rattle.model.specs.Calls.{log_if}
use Rattle.stage.specs.Contexts.{set_byte}
use Rattle.stage.specs.View.{lane, marks_of}
use Rattle.stage.proofs.Places.{next_turn}
use Rattle.stage.proofs.Symbols.{only_spots_then, same_marks}
use Rattle.stage.proofs.state.Journal.set_bytes.Goals as goal

pub loop-at-preserved : goal.loop-at-preserved
loop-at-preserved c =
    let inv = c.loop-at.invariant in
    let j = c.loop-at.self in
    let kept = c.log_spot.ensures.kept in
    let at : ℕ = c.loop-at.at in
    let here : c.loop-at.at < c.args.first + c.args.count = search rules in
    let was = lane c.loop-at.spots j.used.spots in
    let logged = c.log_spot.ensures.lane ∙ ap (λ p. log_if (marks_of j) was (p ∷ [])) c.spot_of.ensures in (
      only_spots_then _ _ _ kept inv.0,
      omega (arith, inv.1),
      omega (arith, c.log_spot.ensures.used, inv.2),
      length-set c.loop-at.bytes at c.args.byte ∙ inv.3,
      next_turn _ _ c.loop-at.at (c.args.first + c.args.count) _ _ _ here
          (ap (λ ms. set_byte ms c.args.side c.args.byte) (same_marks _ _ inv.0))
          (λ i. record { bytes = set c.loop-at.bytes at c.args.byte; spots = logged i })
          inv.4,
    )
