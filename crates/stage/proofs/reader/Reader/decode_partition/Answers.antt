use Rattle.std.proofs.Common.{◌≡◌, true, false, rules}
use Rattle.std.proofs.lemmas.Result.{err_from_is_err_and}
use Rattle.cdf.specs.Words.{table}
use Rattle.model.specs.Decisions.{HORZ, VERT, edge_says}
use Rattle.stage.proofs.ReadPoints.{made, partition_read, stops_made}
use Rattle.stage.proofs.reader.Reader.decode_partition.Goals as goal

pub returns-in_err-s-in-true-false-clause-reads : goal.returns-in_err-s-in-true-false-clause-reads
returns-in_err-s-in-true-false-clause-reads g c =
    let up : c.args.rows ≡ true = search rules in
    let along : c.args.cols ≡ false = search rules in
    let p = err_from_is_err_and c.from_residual-in_err-s-in-true-false.result c.from_residual-in_err-s-in-true-false.ensures.1 in
    rw (p.1, p.2) (partition_read c.args.rows c.args.cols (table c.args.table.first c.args.table.n) true false c.place-start.ensures up along (stops_made (edge_says VERT) c.in_err-s-in-true-false.ensures.reads))

pub returns-in_err-s-in-false-true-clause-reads : goal.returns-in_err-s-in-false-true-clause-reads
returns-in_err-s-in-false-true-clause-reads g c =
    let up : c.args.rows ≡ false = search rules in
    let along : c.args.cols ≡ true = search rules in
    let p = err_from_is_err_and c.from_residual-in_err-s-in-false-true.result c.from_residual-in_err-s-in-false-true.ensures.1 in
    rw (p.1, p.2) (partition_read c.args.rows c.args.cols (table c.args.table.first c.args.table.n) false true c.place-start.ensures up along (stops_made (edge_says HORZ) c.in_err-s-in-false-true.ensures.reads))

pub returns-in_ok-s-in-true-false-clause-reads : goal.returns-in_ok-s-in-true-false-clause-reads
returns-in_ok-s-in-true-false-clause-reads g c =
    let up : c.args.rows ≡ true = search rules in
    let along : c.args.cols ≡ false = search rules in
    partition_read c.args.rows c.args.cols (table c.args.table.first c.args.table.n) true false c.place-start.ensures up along (made (edge_says VERT) c.in_ok-s-in-true-false.ensures.reads c.partition_at_edge.ensures)

pub returns-in_ok-s-in-false-true-clause-reads : goal.returns-in_ok-s-in-false-true-clause-reads
returns-in_ok-s-in-false-true-clause-reads g c =
    let up : c.args.rows ≡ false = search rules in
    let along : c.args.cols ≡ true = search rules in
    partition_read c.args.rows c.args.cols (table c.args.table.first c.args.table.n) false true c.place-start.ensures up along (made (edge_says HORZ) c.in_ok-s-in-false-true.ensures.reads c.partition_at_edge-in-false-true.ensures)
