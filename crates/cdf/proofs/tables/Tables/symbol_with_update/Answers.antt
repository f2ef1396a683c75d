use Rattle.std.proofs.Common.{◌≡◌, ◌+◌, ◌-◌, true, sym, subst, arith, rules}
use Rattle.cdf.specs.Layout.{in_layout, SoundWords}
use Rattle.cdf.specs.Words.{table}
use Rattle.cdf.proofs.Layouts.{words_stay_sound}
use Rattle.cdf.proofs.SameWords.{sound_of}
use Rattle.cdf.proofs.Symbols.{part_updated}
use Rattle.cdf.proofs.tables.Tables.symbol_with_update.Goals as goal

pub invariant_of-self : goal.invariant_of-self
invariant_of-self c =
    let t = c.args.self.now in
    let listed : in_layout (table c.args.first c.args.n) ≡ true = search rules in
    let words = part_updated t.words c.args.first c.args.n c.args.s (c.args.first + c.args.n - c.args.first) c.update_cdf.new.cdf t.long listed (omega arith) c.update_cdf.ensures.words in
    let after = subst SoundWords (sym words) (words_stay_sound t.words (table c.args.first c.args.n) c.args.s listed (sound_of t)) in
    record { long = after.number; fits = after.fits }

pub returns-clause-words : goal.returns-clause-words
returns-clause-words c =
    let t = c.args.self.now in
    let listed : in_layout (table c.args.first c.args.n) ≡ true = search rules in
    let words = part_updated t.words c.args.first c.args.n c.args.s (c.args.first + c.args.n - c.args.first) c.update_cdf.new.cdf t.long listed (omega arith) c.update_cdf.ensures.words in
    search rules
