use Rattle.std.proofs.Common.{◌≡◌, ◌+◌, ◌*◌, ◌%◌, ◌^◌, ◌<◌, ap, ◌∙◌, arith}
use Rattle.std.proofs.lemmas.Result.{err_from_is_err_and}
use Rattle.stage.proofs.ReadBits.{bit_placed, bits_end, bits_grow, bits_turn, bits_whole, breaks, closes, goes}
use Rattle.stage.proofs.reader.Reader.read_bits.Goals as goal

pub returns-in_err-bit-clause-reads : goal.returns-in_err-bit-clause-reads
returns-in_err-bit-clause-reads g c =
    let i : c.loop-i.i < c.args.n = omega arith in
    let p = err_from_is_err_and c.from_residual.result c.from_residual.ensures.1 in
    let left = rw (bits_turn c.args.first c.loop-i.i c.args.n c.loop-i.bits i) at c.loop-i.invariant.left in
    let stopped = breaks _ left c.in_err-bit.ensures.reads in
    rw (p.1, p.2) (rw (bits_whole c.args.first c.args.n) at stopped)

pub loop-i-preserved : goal.loop-i-preserved
loop-i-preserved g c =
    let i : c.loop-i.i < c.args.n = omega arith in
    let few : c.loop-i.i < 10 = omega (arith, c.requires.inside.1) in
    let bit : c.in_ok-bit.bit < 2 = c.in_ok-bit.ensures.below in
    let left = rw (bits_turn c.args.first c.loop-i.i c.args.n c.loop-i.bits i) at c.loop-i.invariant.left in
    let sum : c.loop-i.bits + (c.from.result * 2 ^ c.loop-i.i) % 4294967296 ≡ c.loop-i.bits + c.in_ok-bit.bit * 2 ^ c.loop-i.i =
    ap (λ b. c.loop-i.bits + (b * 2 ^ c.loop-i.i) % 4294967296) c.from.ensures ∙ ap (λ k. c.loop-i.bits + k) (bit_placed c.in_ok-bit.bit c.loop-i.i bit few) in
    rw sum (record {
      counted = omega arith;
      left = goes _ left c.in_ok-bit.ensures.reads;
      below = bits_grow c.in_ok-bit.bit c.loop-i.i c.loop-i.bits bit c.loop-i.invariant.below;
    })

pub returns-clause-reads : goal.returns-clause-reads
returns-clause-reads g c =
    let i : c.loop-i.i ≡ c.args.n = omega arith in
    let left = rw (bits_end c.args.first c.loop-i.i c.args.n c.loop-i.bits i) at c.loop-i.invariant.left in
    rw (bits_whole c.args.first c.args.n) at (closes left)
