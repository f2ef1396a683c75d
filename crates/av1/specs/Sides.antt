-- The sides of a tile.
use Rattle.std.specs.Prelude.{ℕ, ◌%◌, Bool, ◌&&◌, ◌==◌, nat_le}

-- even, in 2..1024
abbrev pub side : ℕ → Bool
side n = n % 2 == 0 && (nat_le 2 n && nat_le n 1024)
