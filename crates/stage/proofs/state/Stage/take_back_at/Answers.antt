use Rattle.std.proofs.Common.{◌≡◌, ℕ, ◌-◌, ◌*◌, ◌<◌, ◌≤◌, true, cond, leb, List, length, take, drop, sym, refl, ap, ◌∙◌, arith, rules}
use borrow.Rule.Slice.PartMut.{mid_of, put_mid}
use Rattle.std.proofs.lemmas.Result.{err_from_is_err_and}
use Rattle.std.proofs.lemmas.Bool.{both_ways, le-leb}
use Rattle.av1.specs.declared.tile.Cell.{Cell}
use Rattle.journal.specs.declared.Mark.{Mark}
use Rattle.journal.specs.declared.Spot.{Spot}
use Rattle.journal.specs.Spots.{Area, area, put_area}
use Rattle.journal.specs.Walks.{undone, visited}
use Rattle.stage.specs.View.{lanes, open_trials, state_of}
use Rattle.stage.proofs.Backs.{back_refused, back_accepted, walked_state, above_long, left_long}
use Rattle.stage.proofs.Cells.{part_taken, part_dropped}
use Rattle.stage.proofs.state.Stage.take_back_at.Goals as goal

pub returns-in_err-mark : goal.returns-in_err-mark
returns-in_err-mark g c =
    let k = g.S.Sink in
    let s = c.args.self.now in
    let p = err_from_is_err_and c.from_residual.result c.from_residual.ensures.1 in
    rw (p.1, p.2) (record {
      step =
          back_refused (length c.args.map.now) (k.rooms c.args.sink.now) (state_of s c.args.map.now) s.journal (lanes c.args.log.now) (k.list c.args.sink.now)
          c.args.depth c.count.result _ c.count.ensures c.in_err-mark.ensures.answer;
      behind = refl;
      rooms = refl;
      still = λ h. (refl, refl, refl);
    })

pub invariant_of-self : goal.invariant_of-self
invariant_of-self g c =
    let s = c.args.self.now in
    let rs : List Spot = visited c.in_ok-mark.mark.used.spots s.journal.used.spots (lanes c.args.log.now).spots in
    let from : Area = area s.contexts.above s.contexts.left (mid_of 0 (c.units-units.result - 0) c.args.map.now) in
    let put : area c.undo_spots.new.above c.undo_spots.new.left c.undo_spots.new.cells ≡ undone put_area rs from = c.undo_spots.ensures.state in
    let over : length c.undo_spots.new.above ≡ 512 = ap (λ (a : Area). length a.above) put ∙ above_long rs from ∙ s.over in
    let beside : length c.undo_spots.new.left ≡ 8 = ap (λ (a : Area). length a.left) put ∙ left_long rs from ∙ s.beside in
    let tried : 0 < open_trials s.journal = c.in_ok-mark.ensures.passed.tried in
    record { ends = s.ends; few = s.few; over = over; beside = beside; quiet = λ closed. absurd (omega (arith, closed, tried)) }

pub returns : goal.returns
returns g c =
    let k = g.S.Sink in
    let s = c.args.self.now in
    let map : List Cell = c.args.map.now in
    let log = lanes c.args.log.now in
    let m : Mark = c.in_ok-mark.mark in
    let passed = c.in_ok-mark.ensures.passed in
    let n : ℕ = c.units-units.result in
    let part : n - 0 ≡ n = omega arith in
    let units : n ≡ s.tile.cols * s.tile.rows = c.units-units.ensures.value in
    let fits : n ≤ length map = omega (arith, passed.mapped, units) in
    let long = c.undo_spots.auto.cells in
    let own : mid_of 0 (n - 0) map ≡ take (s.tile.cols * s.tile.rows) map = ap (λ (i : ℕ). take i map) (part ∙ units) in
    let after : List Cell = put_mid 0 (n - 0) map c.undo_spots.new.cells in
    let all : take (s.tile.cols * s.tile.rows) after ≡ c.undo_spots.new.cells =
    ap (λ (i : ℕ). take i after) (sym units) ∙ part_taken map c.undo_spots.new.cells n (n - 0) part fits long in
    let mapped : length (take (s.tile.cols * s.tile.rows) map) ≡ s.tile.cols * s.tile.rows = search rules in
    let within : leb m.entries (length (k.list c.args.sink.now)) ≡ true = le-leb _ _ (omega (arith, passed.enough, c.count.ensures)) in
    record {
      step =
          back_accepted (length map) (k.rooms c.args.sink.now) (state_of s map) s.journal log (k.list c.args.sink.now)
          c.args.depth c.count.result m s.tables _ _ c.count.ensures c.in_ok-mark.ensures.answer passed.tried passed.mark mapped refl
          (walked_state (state_of s map) (visited m.used.small s.journal.used.small log.small) (visited m.used.large s.journal.used.large log.large) (visited m.used.spots s.journal.used.spots log.spots)
          s.tables c.undo.new.target c.undo-2.new.target c.undo_spots.new.above c.undo_spots.new.left (mid_of 0 (n - 0) map) c.undo_spots.new.cells _
          c.undo.ensures.state c.undo-2.ensures.state c.undo_spots.ensures.state own all)
          (c.cut.ensures.list ∙ ap (λ b. cond b (take m.entries (k.list c.args.sink.now)) (k.list c.args.sink.now)) within);
      behind = ap (λ (i : ℕ). drop i after) (sym units) ∙ part_dropped map c.undo_spots.new.cells n (n - 0) part fits long ∙ ap (λ (i : ℕ). drop i map) units;
      rooms = c.cut.ensures.rooms;
      still = λ h. absurd (both_ways true h refl);
    }
