-- Segments are read back, as other crates cite it.
use Rattle.std.proofs.Common.{◌≡◌, ℕ, ◌+◌, ◌*◌, ◌≤◌, pos, arith}
use Rattle.std.proofs.lemmas.Bool.Decides.{nat_tests}
use Rattle.av1.specs.Segments.{SegmentBack, zigzag, zigzag_back, zigzag_back_int}

-- the zigzag is read back, whatever the number and the prediction
zigzag_undone : (x r : ℕ) → zigzag_back (zigzag x r) r ≡ x
zigzag_undone x r = grind (arith, nat_tests)

-- over the integers the zigzag is read back the same, where nothing is cut off at 0
zigzag_whole : (d r : ℕ) → d ≤ 2 * r + 1 → zigzag_back_int d r ≡ pos (zigzag_back d r)
zigzag_whole d r h = grind (arith, nat_tests)

pub segment_back : SegmentBack
segment_back x r m x_in r_in = grind (arith, nat_tests)
