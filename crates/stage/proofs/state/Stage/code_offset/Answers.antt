use Rattle.stage.specs.Coding.{moment}
use Rattle.stage.proofs.Vectors.{offset_coded}
use Rattle.stage.proofs.state.Stage.code_offset.Goals as goal

pub returns : goal.returns
returns g c sign =
    let k = g.S.Sink in
    offset_coded c.args.tables.base c.args.precision sign c.args.class c.args.offset c.requires.offset c.requires.fine
    (moment c.args.self.now c.args.log.now (k.rooms c.args.sink.now) (k.list c.args.sink.now))
    (moment c.code_integer.new.self c.code_integer.new.log (k.rooms c.code_integer.new.sink) (k.list c.code_integer.new.sink))
    (moment c.code_fraction.new.self c.code_fraction.new.log (k.rooms c.code_fraction.new.sink) (k.list c.code_fraction.new.sink))
    (moment c.code_high.new.self c.code_high.new.log (k.rooms c.code_high.new.sink) (k.list c.code_high.new.sink))
    c.code_integer.ensures c.code_fraction.ensures c.code_high.ensures
