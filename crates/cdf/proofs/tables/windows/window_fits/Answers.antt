use Rattle.std.proofs.Common.{false, true, sym, ap, ◌∙◌, get_or, arith, rules}
use Rattle.cdf.proofs.Windows.{all_left, before_first, word_left, before_next, behind_left}
use Rattle.cdf.proofs.tables.windows.window_fits.Goals as goal

pub loop-i-init : goal.loop-i-init
loop-i-init c =
    let w = c.args.words.now in
    let f = c.args.first in
    let us = c.args.window.now in
    record {
      last = λ p. ap (λ i. get_or w i 0) c.saturating_sub.ensures ∙ before_first w f us c.requires.sound c.requires.inside p;
      left = all_left w f us c.requires.sound c.requires.inside;
    }

pub returns-then-not-word_fits : goal.returns-then-not-word_fits
returns-then-not-word_fits c =
    let step = word_left c.args.words.now c.args.first c.args.window.now c.requires.sound c.requires.inside c.loop-i.i c.loop-i.before false (omega arith) c.loop-i.invariant.last (sym c.word_fits.ensures ∙ c.if-not-word_fits.true) in
    sym (c.loop-i.invariant.left ∙ step)

pub loop-i-preserved : goal.loop-i-preserved
loop-i-preserved c =
    let w = c.args.words.now in
    let f = c.args.first in
    let us = c.args.window.now in
    let step = word_left w f us c.requires.sound c.requires.inside c.loop-i.i c.loop-i.before true (omega arith) c.loop-i.invariant.last (sym c.word_fits.ensures ∙ c.if-not-word_fits.false) in
    record { last = before_next w f us c.requires.sound c.requires.inside c.loop-i.i (omega arith); left = c.loop-i.invariant.left ∙ step }

pub returns : goal.returns
returns c =
    let behind = behind_left c.args.words.now c.args.first c.args.window.now c.requires.sound c.requires.inside c.loop-i.i c.loop-i.before c.is_none_or.result c.get.result (omega arith) c.loop-i.invariant.last (search rules) (search rules) in
    sym (c.loop-i.invariant.left ∙ behind)
