use Rattle.std.proofs.Common.{◌-◌, [], ◌∙◌, take}
use Rattle.model.specs.Decisions.{block_cells}
use Rattle.stage.proofs.Cells.{still_quiet}
use Rattle.stage.proofs.Symbols.{same_trials, still_few}
use Rattle.stage.proofs.reader.Reader.set_cells.Goals as goal

pub invariant_of-self : goal.invariant_of-self
invariant_of-self c =
    let r = c.args.self.now in
    let s = r.stage in
    let b = c.args.block in
    let e = c.set_block.ensures in
    let quiet =
    still_quiet c.args.change (block_cells c.cols.result b.width b.from b.height) s.journal c.set_block.new.self
    (take (c.units.result - 0) c.args.map.now) c.set_block.new.cells [] _ e.kept e.cells s.quiet in
    ((s.ends, (still_few c.set_block.new.self s.journal e.kept s.few, (s.over, (s.beside, (quiet, tt))))), (same_trials c.set_block.new.self s.journal e.kept ∙ r.closed, tt))
