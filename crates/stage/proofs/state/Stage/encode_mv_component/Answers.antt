use Rattle.std.proofs.Common.{◌≡◌, ℕ, ◌+◌, [], ◌∷◌, arith, rules}
use Rattle.model.specs.Tree.{one}
use Rattle.stage.specs.Coding.{Coded, Moment, moment, RoomFor}
use Rattle.stage.specs.Vectors.{offset_count}
use Rattle.stage.proofs.Coding.{coded_small, coded_large, room_left}
use Rattle.stage.proofs.Vectors.{sign_in_layout, classes_in_layout, SplitAs, Parts, parts, component_room, component_coded}
use Rattle.stage.proofs.state.Stage.encode_mv_component.Goals as goal

pub invariant_of-symbol : goal.invariant_of-symbol
invariant_of-symbol g c = record { there = sign_in_layout c.args.tables.base c.args.tables.one }

pub invariant_of-symbol-2 : goal.invariant_of-symbol-2
invariant_of-symbol-2 g c = record { there = classes_in_layout c.args.tables.base c.args.tables.one }

pub code_offset-requires : goal.code_offset-requires
code_offset-requires g c =
    let k = g.S.Sink in
    let class : ℕ = c.get_mv_class-class.result.0 in
    let offset : ℕ = c.get_mv_class-class.result.1 in
    let split : SplitAs c.args.comp c.in-Some.sign c.in-Some.mag = search rules in
    let some : c.in-Some.mag ≡ 0 → ⊥ = search rules in
    let is : Parts c.args.precision c.args.comp c.in-Some.sign class offset =
    parts c.args.precision c.args.comp c.in-Some.sign c.in-Some.mag class offset c.requires.fine split some
    c.get_mv_class-class.ensures.class c.get_mv_class-class.ensures.offset in
    let m : Moment = moment c.args.self.now c.args.log.now (k.rooms c.args.sink.now) (k.list c.args.sink.now) in
    let n : Moment = moment c.symbol.new.self c.symbol.new.log (k.rooms c.symbol.new.sink) (k.list c.symbol.new.sink) in
    let l : Moment = moment c.symbol-2.new.self c.symbol-2.new.log (k.rooms c.symbol-2.new.sink) (k.list c.symbol-2.new.sink) in
    let e = c.symbol.ensures in
    let f = c.symbol-2.ensures in
    let coded : Coded (one c.args.tables.base 2) (c.in-Some.sign ∷ []) 1 0 m n =
    coded_small c.args.tables.base 2 c.in-Some.sign m n (omega arith) e.step e.rooms e.left e.few e.memory e.trials in
    let named : Coded (one (c.args.tables.base + 40) 11) (class ∷ []) 0 1 n l =
    coded_large (c.args.tables.base + 40) 11 class n l (omega arith) f.step f.rooms f.left f.many f.memory f.trials in
    let room : RoomFor (offset_count c.args.precision class) 1 n =
    room_left (one c.args.tables.base 2) (c.in-Some.sign ∷ []) 1 0 (offset_count c.args.precision class) 1 (1 + offset_count c.args.precision class) 1 m n coded (omega arith) (omega arith)
    (component_room c.args.precision c.args.comp c.in-Some.sign class offset m is c.requires.room) in
    record {
      class = is.most;
      offset = is.within;
      fine = is.fine;
      room =
          room_left (one (c.args.tables.base + 40) 11) (class ∷ []) 0 1 (offset_count c.args.precision class) 0 (offset_count c.args.precision class) 1 n l named (omega arith) (omega arith) room;
    }

pub returns : goal.returns
returns g c =
    let k = g.S.Sink in
    let class : ℕ = c.get_mv_class-class.result.0 in
    let offset : ℕ = c.get_mv_class-class.result.1 in
    let split : SplitAs c.args.comp c.in-Some.sign c.in-Some.mag = search rules in
    let some : c.in-Some.mag ≡ 0 → ⊥ = search rules in
    let is : Parts c.args.precision c.args.comp c.in-Some.sign class offset =
    parts c.args.precision c.args.comp c.in-Some.sign c.in-Some.mag class offset c.requires.fine split some
    c.get_mv_class-class.ensures.class c.get_mv_class-class.ensures.offset in
    let m : Moment = moment c.args.self.now c.args.log.now (k.rooms c.args.sink.now) (k.list c.args.sink.now) in
    let n : Moment = moment c.symbol.new.self c.symbol.new.log (k.rooms c.symbol.new.sink) (k.list c.symbol.new.sink) in
    let l : Moment = moment c.symbol-2.new.self c.symbol-2.new.log (k.rooms c.symbol-2.new.sink) (k.list c.symbol-2.new.sink) in
    let o : Moment = moment c.code_offset.new.self c.code_offset.new.log (k.rooms c.code_offset.new.sink) (k.list c.code_offset.new.sink) in
    let e = c.symbol.ensures in
    let f = c.symbol-2.ensures in
    component_coded c.args.tables.base c.args.precision c.args.comp c.in-Some.sign class offset m n l o is c.in-Some.ensures.within.0
    (coded_small c.args.tables.base 2 c.in-Some.sign m n (omega arith) e.step e.rooms e.left e.few e.memory e.trials)
    (coded_large (c.args.tables.base + 40) 11 class n l (omega arith) f.step f.rooms f.left f.many f.memory f.trials)
    (c.code_offset.ensures c.in-Some.sign)
