use Rattle.std.proofs.Common.{◌≡◌, ◌*◌, ap, ◌∙◌, ap₂}
use Rattle.stage.specs.View.{cleared}
use Rattle.stage.proofs.Starts.{started}
use Rattle.stage.proofs.state.Stage.start.Goals as goal

pub returns : goal.returns
returns c =
    let tile = c.in_ok-tile.tile in
    let m = c.in_ok-tile.ensures.made in
    let cells : c.clear_cells.new.map ≡ cleared (tile.cols * tile.rows) c.args.map.now =
    c.clear_cells.ensures ∙ ap (λ n. cleared n c.args.map.now) c.units.ensures.value in
    record {
      asked = c.in_ok-tile.ensures.asked;
      fresh = λ l.
          started c.args.columns c.args.rows c.args.last tile.cols tile.rows c.start.result.words c.start-2.result.above c.start-2.result.left
          c.start-3.result.marks.items c.start-3.result.used
          c.args.map.now c.clear_cells.new.map l m.0 m.1 c.start.ensures c.start-2.ensures.0 c.start-2.ensures.1 c.start-3.ensures.marks c.start-3.ensures.used cells;
      map = cells ∙ ap₂ (λ a b. cleared (a * b) c.args.map.now) m.0 m.1;
    }
