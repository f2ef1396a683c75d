use Rattle.std.proofs.Common.{ℕ, ◌+◌, ◌*◌, ◌/◌, ◌%◌, ◌^◌, ◌<◌, arith, rules}
use Rattle.stage.specs.Coding.{Moment, moment}
use Rattle.stage.proofs.Coding.{coded_small, coded_bit}
use Rattle.stage.proofs.state.Stage.code_bits.Goals as goal

pub loop-i-preserved : goal.loop-i-preserved
loop-i-preserved g c =
    let k = g.S.Sink in
    let i : ℕ = c.loop-i.i in
    let below : i < c.args.n = search rules in
    let e = c.symbol.ensures in
    let from : Moment = moment c.args.self.now c.args.log.now (k.rooms c.args.sink.now) (k.list c.args.sink.now) in
    let here : Moment = moment c.loop-i.self c.loop-i.log (k.rooms c.loop-i.sink) (k.list c.loop-i.sink) in
    let next : Moment = moment c.symbol.new.self c.symbol.new.log (k.rooms c.symbol.new.sink) (k.list c.symbol.new.sink) in (
      omega arith,
      coded_bit i c.args.first c.args.bits from here next c.loop-i.invariant.1
          (coded_small (c.args.first + 2 * i) 2 (c.args.bits / 2 ^ i % 2) here next (omega arith) e.step e.rooms e.left e.few e.memory e.trials),
    )
