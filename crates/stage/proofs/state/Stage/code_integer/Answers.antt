use Rattle.std.proofs.Common.{◌≡◌, ◌≤◌, arith, rules}
use Rattle.stage.proofs.Vectors.{component_inside, bits_in_layout, bits_room}
use Rattle.stage.proofs.state.Stage.code_integer.Goals as goal

pub code_bits-requires : goal.code_bits-requires
code_bits-requires g c =
    let more : c.args.class ≡ 0 → ⊥ = search rules in
    let most : c.args.tables.base ≤ 374 = component_inside c.args.tables.base c.args.tables.one in
    record {
      tables = bits_in_layout c.args.tables.base c.args.class c.args.tables.one c.requires.class;
      inside = (omega (arith, c.requires.class), omega (arith, c.requires.class));
      room = bits_room c.args.class _ more c.requires.room;
    }
