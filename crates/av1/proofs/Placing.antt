-- The rows of a placed block lie among the tile's cells.
use Rattle.std.proofs.Common.{ℕ, ◌+◌, ◌-◌, ◌*◌, ◌<◌, ◌≤◌, min, arith}
use Rattle.std.proofs.lemmas.Nat.{row_fits_turned}
use Rattle.av1.specs.Tiles.{Inside}

pub inside_block : (columns rows x y w h : ℕ) → x < columns → y < rows → 0 < w → w ≤ 32 → h ≤ 32
    → Inside columns rows (record { from = y * columns + x; width = min w (columns - x); height = min h (rows - y) })
inside_block columns rows x y w h x_in y_in positive wide high =
    record {
      some = omega arith;
      wide = omega arith;
      high = omega arith;
      row = λ k l. omega (arith, row_fits_turned (y + k) columns columns rows (omega arith) (omega arith));
    }
