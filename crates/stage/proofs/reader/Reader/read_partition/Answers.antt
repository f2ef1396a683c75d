use Rattle.std.proofs.Common.{ℕ, ◌-◌, List, length, drop, Err, sym, refl, ap, ◌∙◌}
use Rattle.std.proofs.lemmas.Result.{err_from_is_err_and}
use Rattle.av1.specs.Partitions.{number}
use Rattle.av1.specs.declared.tile.Cell.{Cell}
use Rattle.model.specs.declared.Question.TheVariants as question
use Rattle.model.specs.Decisions.{partition_tree}
use Rattle.model.specs.Runs.{fault}
use Rattle.model.specs.Tree.{read}
use Rattle.stage.specs.Faults.{fault_of}
use Rattle.stage.specs.View.{refused_by, state_of}
use Rattle.stage.proofs.Partitions.{same_table}
use Rattle.stage.proofs.ReadBlocks.{accepted_read, faulty_read, from_start, read_state, refused_read, square_asked_first}
use Rattle.stage.proofs.reader.Reader.read_partition.Goals as goal

pub returns-in_err-ask_square-clause-step : goal.returns-in_err-ask_square-clause-step
returns-in_err-ask_square-clause-step g c =
    let s = c.args.self.now.stage in
    let p = err_from_is_err_and c.from_residual.result c.from_residual.ensures.1 in
    rw (p.1, p.2) (λ memory.
    refused_read (length memory) (g.Q.Source.list c.args.source.now) (question.Partition c.args.bo.x c.args.bo.y c.args.bsize) (state_of s memory) (g.Q.Source.place c.args.source.now) _
    (square_asked_first s.tile.cols s.tile.rows c.args.bo.x c.args.bo.y c.args.bsize ∙ sym (ap refused_by c.in_err-ask_square.ensures.answer)))

pub returns-in_err-p-clause-step : goal.returns-in_err-p-clause-step
returns-in_err-p-clause-step g c =
    let s = c.args.self.now.stage in
    let l = g.Q.Source.list c.args.source.now in
    let at = g.Q.Source.place c.args.source.now in
    let x = c.args.bo.x in
    let y = c.args.bo.y in
    let z = c.args.bsize in
    let t = c.partition_table-table.result in
    let p = err_from_is_err_and c.from_residual-in_err-p.result c.from_residual-in_err-p.ensures.1 in
    let still = c.in_err-p.ensures.still refl in
    let same = λ (memory : List Cell). same_table (state_of s memory) x y z (c.width_log2-level.result - 3) c.partition_plane_context-ctx.result t.first t.n
    (ap (λ (e : ℕ). e - 3) c.width_log2-level.ensures) c.partition_plane_context-ctx.ensures.value c.partition_table-table.ensures in
    rw (p.1, p.2) (λ memory.
    (λ i. (Err (fault (fault_of c.in_err-p.field-0.0)), state_of (still.0 i).stage memory, still.1 i))
    ∙ faulty_read (length memory) l (question.Partition x y z) (state_of s memory) at (fault_of c.in_err-p.field-0.0)
    (square_asked_first s.tile.cols s.tile.rows x y z ∙ sym (ap refused_by c.in_ok-ask_square.ensures.answer))
    (from_start c.in_err-p.ensures.reads refl
    ∙ (λ i. read s.tables.words (partition_tree (c.has_rows-rows.ensures i) (c.has_cols-cols.ensures i) (same memory i)) at 0 at (drop at l))))

pub returns-clause-step : goal.returns-clause-step
returns-clause-step g c memory =
    let s = c.args.self.now.stage in
    let l = g.Q.Source.list c.args.source.now in
    let at = g.Q.Source.place c.args.source.now in
    let x = c.args.bo.x in
    let y = c.args.bo.y in
    let z = c.args.bsize in
    let t = c.partition_table-table.result in
    let reads = c.in_ok-p.ensures.reads in
    let same = same_table (state_of s memory) x y z (c.width_log2-level.result - 3) c.partition_plane_context-ctx.result t.first t.n
    (ap (λ (e : ℕ). e - 3) c.width_log2-level.ensures) c.partition_plane_context-ctx.ensures.value c.partition_table-table.ensures in
    accepted_read (length memory) l (question.Partition x y z) (state_of s memory) at (number c.in_ok-p.p) c.decode_partition.new.self.stage.tables.words _ _ _
    (square_asked_first s.tile.cols s.tile.rows x y z ∙ sym (ap refused_by c.in_ok-ask_square.ensures.answer))
    (from_start reads refl
    ∙ (λ i. read s.tables.words (partition_tree (c.has_rows-rows.ensures i) (c.has_cols-cols.ensures i) (same i)) at 0 at (drop at l)))
    (read_state c.decode_partition.new.self.stage s memory reads.kept)
