use Rattle.std.proofs.Common.{◌≡◌, ℕ, ◌+◌, ◌-◌, ◌<◌, length, set, ◌≢◌, arith, get_or-set_other, get_or-set_same, rules, below_more}
use Rattle.cdf.specs.Words.{adapted}
use Rattle.cdf.proofs.Adapting.{adapts, stays_lawful}
use Rattle.cdf.proofs.adapt.update_cdf.Goals as goal

pub loop-i-preserved : goal.loop-i-preserved
loop-i-preserved c =
    let i : ℕ = c.loop-i.i in
    let inside : i < length c.loop-i.cdf = omega arith in record {
      done = below_more _ _ (λ k h. let ne : k ≢ i = omega arith in rw get_or-set_other (c.loop-i.invariant.done k h)) (rw get_or-set_same (search rules));
      left = λ k h. let ne : k ≢ i = omega arith in rw get_or-set_other (c.loop-i.invariant.left k (omega arith));
    }

words_then : (c : goal.After-counted) → set c.loop-i.cdf (length c.args.cdf.now - 1) c.counted.result ≡ adapted (length c.args.cdf.now) c.args.cdf.now c.args.val
words_then c =
    adapts c.args.cdf.now c.loop-i.cdf c.args.val c.in-Some.field-0.now c.counted.result (3 + c.min.result + c.from.result) (search rules) (search rules) (search rules) (search rules) (search rules) (search rules)

pub returns-clause-words : goal.returns-clause-words
returns-clause-words c = words_then c

pub returns-clause-lawful : goal.returns-clause-lawful
returns-clause-lawful c = stays_lawful c.args.cdf.now _ c.args.val (words_then c)
