use Rattle.std.proofs.Common.{◌≡◌, ℕ, ◌+◌, ◌-◌, ◌*◌, Bool, true, false, cond, leb, Ok, Result, sym, ap, subst, arith, rules}
use Rattle.std.proofs.lemmas.Result.{err_from_is_err_and}
use Rattle.av1.specs.declared.refusal.Refusal.TheVariants as no
use Rattle.av1.specs.Segments.{deinterleaved}
use Rattle.model.proofs.TreeTables.{segment_in_layout}
use Rattle.model.specs.Decisions.{segment_read, segment_tree}
use Rattle.model.specs.Tree.{done, never}
use Rattle.stage.specs.declared.reader.fault.ReadFault.{ReadFault}
use Rattle.stage.specs.declared.reader.fault.ReadFault.TheVariants as fault
use Rattle.stage.specs.Reads.{Point, Reads, point}
use Rattle.stage.proofs.ReadPoints.{after_that, ends, refuses, stops}
use Rattle.stage.proofs.reader.Reader.decode_segment.Goals as goal

pub invariant_of-table : goal.invariant_of-table
invariant_of-table g c = record { there = segment_in_layout c.args.number (omega (arith, c.requires.number)) }

-- of a block that is not skipped, in a decision that begins at its point
unskipped : {start p : ℕ} {m n : Point} {r : Result ℕ ReadFault} (skip : Bool) (number last near : ℕ) → start ≡ p → skip ≡ false
    → Reads start (segment_tree false number last near) m n r → Reads p (segment_tree skip number last near) m n r
unskipped {start} {p} {m} {n} {r} skip number last near at coded x =
    subst (λ i. Reads i (segment_tree skip number last near) m n r) at (subst (λ b. Reads start (segment_tree b number last near) m n r) (sym coded) x)

-- a symbol of a segment that is active
known : {start segment : ℕ} {m : Point} (s last near : ℕ) → leb s last ≡ true → segment ≡ deinterleaved s near (last + 1) → Reads start (segment_read last near s) m m (Ok segment)
known {start} {segment} {m} s last near active same =
    subst (λ b. Reads start (cond b (done (deinterleaved s near (last + 1))) (never no.SymbolAboveLast)) m m (Ok segment)) (sym active) (ends same)

pub returns-in_err-s-clause-reads : goal.returns-in_err-s-clause-reads
returns-in_err-s-clause-reads g c =
    let last = c.args.self.now.stage.last in
    let coded : c.args.skip ≡ false = search rules in
    let p = err_from_is_err_and c.from_residual.result c.from_residual.ensures.1 in
    rw (p.1, p.2) (unskipped c.args.skip c.args.number last c.args.prediction c.place-start.ensures coded (stops (segment_read last c.args.prediction) c.in_err-s.ensures.reads))

pub returns-in_default-clause-reads : goal.returns-in_default-clause-reads
returns-in_default-clause-reads g c =
    let last = c.args.self.now.stage.last in
    let l = g.Q.Source.list c.args.source.now in
    let at = g.Q.Source.place c.args.source.now in
    let near = c.args.prediction in
    let reads = c.in_ok-s.ensures.reads in
    let coded : c.args.skip ≡ false = search rules in
    let same : c.read_entry.new.self.stage.last ≡ c.args.self.now.stage.last = reads.kept.last in
    let above : leb c.in_ok-s.s last ≡ false = search rules in
    let none : 0 ≡ at - c.place-start.result = omega (arith, c.place-start.ensures) in
    unskipped c.args.skip c.args.number last near c.place-start.ensures coded
    (refuses (segment_read last near) no.SymbolAboveLast (fault.AboveLast 0 (30 + 8 * c.args.number) c.place-start.result)
    (point c.go_back.new.self.stage (g.Q.Source.list c.go_back.new.source) (g.Q.Source.place c.go_back.new.source)) reads
    (ap (λ b. cond b (done (deinterleaved c.in_ok-s.s near (last + 1))) (never no.SymbolAboveLast)) above)
    (λ i. record { why = no.SymbolAboveLast; entry = none i; table = 30 + 8 * c.args.number; place = c.place-start.ensures i })
    c.go_back.ensures.list (omega (arith, c.place-start.ensures, c.go_back.ensures.place)) c.go_back.ensures.kept)

pub returns-clause-reads : goal.returns-clause-reads
returns-clause-reads g c =
    let last = c.args.self.now.stage.last in
    let near = c.args.prediction in
    let coded : c.args.skip ≡ false = search rules in
    let same : c.read_entry.new.self.stage.last ≡ c.args.self.now.stage.last = c.in_ok-s.ensures.reads.kept.last in
    let below : leb c.in_ok-s.s c.args.self.now.stage.last ≡ true = search rules in
    let value : c.in-Some.segment ≡ deinterleaved c.in_ok-s.s c.args.prediction (c.args.self.now.stage.last + 1) = search rules in
    unskipped c.args.skip c.args.number last near c.place-start.ensures coded
    (after_that (segment_read last near) c.in_ok-s.ensures.reads
    (known c.in_ok-s.s last near below value))
