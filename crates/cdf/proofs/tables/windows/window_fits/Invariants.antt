use Rattle.std.proofs.Common.{◌≡◌, ◌+◌, ◌<◌, length}
use lib.Seq.{sets}
use Rattle.cdf.specs.Layout.{lawful}
use Rattle.cdf.specs.Limits.{word_before}
use Rattle.cdf.proofs.Windows.{left_to_test}
use Rattle.cdf.proofs.tables.windows.window_fits.Given as goal

abbrev pub invariant-loop-i : goal.invariant-loop-i
invariant-loop-i l =
    let put = sets l.words l.first l.window in record {
      last : 0 < l.first + l.i → l.before ≡ word_before put (l.first + l.i);
      left : lawful put ≡ left_to_test put l.first (length l.window) (l.first + l.i);
    }
