use Rattle.std.proofs.Common.{◌≡◌, rules}
use Rattle.stage.proofs.ReadVectors.{integer_read}
use Rattle.stage.proofs.Vectors.{bits_in_layout}
use Rattle.stage.proofs.reader.Reader.read_integer.Goals as goal

pub read_bits-requires-clause-tables : goal.read_bits-requires-clause-tables
read_bits-requires-clause-tables g c = bits_in_layout c.args.tables.base c.args.class c.args.tables.one c.requires.class

pub returns-clause-reads : goal.returns-clause-reads
returns-clause-reads g c =
    let some : c.args.class ≡ 0 → ⊥ = search rules in
    integer_read c.args.tables.base c.args.class some c.read_bits.ensures.reads
