use Rattle.std.proofs.Common.{◌≡◌, ℕ, ◌-◌, ◌*◌, Bool, not, eqb, length, take, Err, Result, sym, refl, ap, ◌∙◌, subst, arith}
use Rattle.std.proofs.lemmas.Result.{err_from_is_err_and}
use Rattle.av1.specs.Tiles.{skip_context}
use Rattle.cdf.specs.Words.{table}
use Rattle.model.proofs.TreeTables.{skip_in_layout}
use Rattle.model.specs.Coders.{whole}
use Rattle.model.specs.Decisions.{State, flag_read}
use Rattle.model.specs.declared.Question.TheVariants as question
use Rattle.model.specs.Runs.{fault}
use Rattle.model.specs.Tree.{coded, done, one, read_by}
use Rattle.stage.specs.declared.reader.fault.ReadFault.{ReadFault}
use Rattle.stage.specs.declared.state.cells.Change.TheVariants as change
use Rattle.stage.specs.Faults.{fault_of}
use Rattle.stage.specs.Reads.{Point, Reads}
use Rattle.stage.specs.View.{refused_by, state_of}
use Rattle.stage.proofs.ReadBlocks.{block_asked_first, block_read, faulty_read, flag_same, from_start, read_state, refused_read}
use Rattle.stage.proofs.ReadPoints.{made, stops_made}
use Rattle.stage.proofs.reader.Reader.read_skip.Goals as goal

pub returns-in_err-block-clause-step : goal.returns-in_err-block-clause-step
returns-in_err-block-clause-step g c =
    let s : State = state_of c.args.self.now.stage c.args.map.now in
    let p = err_from_is_err_and c.from_residual.result c.from_residual.ensures.1 in
    rw (p.1, p.2) (refused_read (length c.args.map.now) (g.Q.Source.list c.args.source.now) (question.Skip c.args.bo.x c.args.bo.y c.args.bsize) s (g.Q.Source.place c.args.source.now) _
    (block_asked_first s.columns s.rows (length c.args.map.now) c.args.bo.x c.args.bo.y c.args.bsize ∙ sym (ap refused_by c.in_err-block.ensures.answer)))

pub invariant_of-table : goal.invariant_of-table
invariant_of-table g c = record { there = skip_in_layout c.skip_context-ctx.result (omega (arith, c.skip_context-ctx.ensures.most)) }

-- the flag's symbol, by the table that the neighbours name
flag_tree : {start : ℕ} {m n : Point} {r : Result Bool ReadFault} (ctx number : ℕ) → ctx ≡ number
    → Reads start (read_by flag_read (one (2 * ctx) 2)) m n r → Reads start (coded (whole (table (2 * number) 2)) (λ v. done (flag_read v))) m n r
flag_tree {start} {m} {n} {r} ctx number same x = subst (λ i. Reads start (coded (whole (table (2 * i) 2)) (λ v. done (flag_read v))) m n r) same x

pub returns-in_err-s-clause-step : goal.returns-in_err-s-clause-step
returns-in_err-s-clause-step g c =
    let s : State = state_of c.args.self.now.stage c.args.map.now in
    let l = g.Q.Source.list c.args.source.now in
    let at = g.Q.Source.place c.args.source.now in
    let x = c.args.bo.x in
    let y = c.args.bo.y in
    let part : c.units.result - 0 ≡ s.columns * s.rows = omega (arith, c.units.ensures.value) in
    let context : c.skip_context-ctx.result ≡ skip_context s.columns s.rows s.cells x y =
    c.skip_context-ctx.ensures.value ∙ ap (λ (i : ℕ). skip_context s.columns s.rows (take i c.args.map.now) x y) part in
    let p = err_from_is_err_and c.from_residual-in_err-s.result c.from_residual-in_err-s.ensures.1 in
    let still = c.in_err-s.ensures.still refl in
    rw (p.1, p.2) ((λ i. (Err (fault (fault_of c.in_err-s.field-0.0)), state_of (still.0 i).stage c.args.map.now, still.1 i))
    ∙ faulty_read (length c.args.map.now) l (question.Skip x y c.args.bsize) s at (fault_of c.in_err-s.field-0.0)
    (block_asked_first s.columns s.rows (length c.args.map.now) x y c.args.bsize ∙ sym (ap refused_by c.in_ok-block.ensures.answer))
    (from_start (flag_tree c.skip_context-ctx.result _ context (stops_made flag_read c.in_err-s.ensures.reads)) c.place-start.ensures))

pub returns-clause-step : goal.returns-clause-step
returns-clause-step g c =
    let s : State = state_of c.args.self.now.stage c.args.map.now in
    let l = g.Q.Source.list c.args.source.now in
    let at = g.Q.Source.place c.args.source.now in
    let x = c.args.bo.x in
    let y = c.args.bo.y in
    let part : c.units.result - 0 ≡ s.columns * s.rows = omega (arith, c.units.ensures.value) in
    let context : c.skip_context-ctx.result ≡ skip_context s.columns s.rows s.cells x y =
    c.skip_context-ctx.ensures.value ∙ ap (λ (i : ℕ). skip_context s.columns s.rows (take i c.args.map.now) x y) part in
    let reads = c.in_ok-s.ensures.reads in
    let skip : Bool = not (eqb c.in_ok-s.s 0) in
    block_read (length c.args.map.now) l (question.Skip x y c.args.bsize) s at x y c.args.bsize c.in_ok-block.block (change.Skip skip) skip
    c.read_entry.new.self.stage.tables.words _ _ (state_of c.read_entry.new.self.stage c.args.map.now) _ (λ v. refl)
    (block_asked_first s.columns s.rows (length c.args.map.now) x y c.args.bsize) c.in_ok-block.ensures.answer
    (from_start (flag_tree c.skip_context-ctx.result _ context (made flag_read reads (flag_same c.in_ok-s.s))) c.place-start.ensures)
    (read_state c.read_entry.new.self.stage c.args.self.now.stage c.args.map.now reads.kept) c.set_cells.ensures.state
