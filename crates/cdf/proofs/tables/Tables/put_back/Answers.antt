use Rattle.std.proofs.Common.{◌-◌, sym, ◌∙◌, subst, arith}
use Rattle.cdf.specs.Layout.{SoundWords}
use Rattle.cdf.proofs.Regions.{put_sound}
use Rattle.cdf.proofs.SameWords.{sound_of}
use Rattle.cdf.proofs.Windows.{copied}
use Rattle.cdf.proofs.tables.Tables.put_back.Goals as goal

pub invariant_of-self : goal.invariant_of-self
invariant_of-self c =
    let t = c.args.self.now in
    let f = c.args.first in
    let us = c.args.words.now in
    let put = copied t.words f us (sound_of t) (omega arith) (c.saturating_add-end.result - f) c.copy_from_slice.new.self (sym c.window_fits.ensures ∙ c.if-window_fits.true) c.copy_from_slice.ensures.after (omega arith) in
    let after = subst SoundWords (sym put) (put_sound f us t.words (sound_of t)) in
    record { long = after.number; fits = after.fits }

pub returns-then-window_fits : goal.returns-then-window_fits
returns-then-window_fits c =
    let t = c.args.self.now in
    let f = c.args.first in
    copied t.words f c.args.words.now (sound_of t) (omega arith) (c.saturating_add-end.result - f) c.copy_from_slice.new.self (sym c.window_fits.ensures ∙ c.if-window_fits.true) c.copy_from_slice.ensures.after (omega arith)
