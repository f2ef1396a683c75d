-- A tile of columns × rows units: its cells, row by row, the neighbours of a unit, and the cells of a block.
use Rattle.std.specs.Prelude.{ℕ, ◌+◌, ◌-◌, ◌*◌, ◌/◌, ◌%◌, ◌<◌, ◌≤◌, min, Bool, false, IsTrue, if◌then◌else◌, ◌&&◌, List, length, Some, None, Ok, Err, Option, Result, ◌==◌, nat_le, nat_lt, slice_index_or}
use Rattle.std.specs.Int.{from_bool}
use Rattle.av1.specs.declared.refusal.Refusal.{Refusal}
use Rattle.av1.specs.declared.refusal.Refusal.TheVariants as no
use Rattle.av1.specs.declared.size.BlockSize.{BlockSize}
use Rattle.av1.specs.declared.tile.Block.{Block}
use Rattle.av1.specs.declared.tile.Cell.{Cell}
use Rattle.av1.specs.Sides.{side}
use Rattle.av1.specs.Sizes.{width, height, width_mi, height_mi, no_side_above, splits}

-- what every cell is at the start
abbrev pub no_cell : Cell
no_cell = record { skip = false; segment = 0 }

-- 1 for a cell that is there and skipped
abbrev pub flag_of : Option Cell → ℕ
flag_of None = 0
flag_of (Some c) = from_bool c.skip

module _ (columns rows : ℕ) where
  abbrev pub sides_asked : Result (Unit {0}) Refusal
  sides_asked = if side columns && side rows then Ok tt else Err no.TileSize

  abbrev pub map_asked : ℕ → Result (Unit {0}) Refusal
  map_asked memory = if nat_le (columns * rows) memory then Ok tt else Err no.MapMemory

  -- the cell of a unit; one outside the tile, or outside the memory, is absent
  abbrev pub cell_of : List Cell → ℕ → ℕ → Option Cell
  cell_of cells x y =
      if nat_lt x columns && nat_lt y rows
      then (if nat_lt (y * columns + x) (length cells) then Some (slice_index_or cells (y * columns + x) no_cell) else None)
      else None

  abbrev pub above_of : List Cell → ℕ → ℕ → Option Cell
  above_of cells x y = if nat_lt 0 y then cell_of cells x (y - 1) else None

  abbrev pub left_of : List Cell → ℕ → ℕ → Option Cell
  left_of cells x y = if nat_lt 0 x then cell_of cells (x - 1) y else None

  abbrev pub above_left_of : List Cell → ℕ → ℕ → Option Cell
  above_left_of cells x y = if nat_lt 0 x && nat_lt 0 y then cell_of cells (x - 1) (y - 1) else None

  -- the skip flags above and left are counted
  abbrev pub skip_context : List Cell → ℕ → ℕ → ℕ
  skip_context cells x y = flag_of (above_of cells x y) + flag_of (left_of cells x y)

  -- a position in the tile, at multiples of the block's sides
  abbrev pub in_tile : ℕ → ℕ → BlockSize → Bool
  in_tile x y z = nat_lt x columns && (nat_lt y rows && (x % width_mi z == 0 && y % height_mi z == 0))

  -- the block's cells that lie in the tile
  abbrev pub block_at : ℕ → ℕ → BlockSize → Block
  block_at x y z = record { from = y * columns + x; width = min (width_mi z) (columns - x); height = min (height_mi z) (rows - y) }

  abbrev pub placed : ℕ → ℕ → BlockSize → Result Block Refusal
  placed x y z = if in_tile x y z then Ok (block_at x y z) else Err no.Position

  -- with the map's memory and the block's sides asked for first
  abbrev pub block_asked : ℕ → ℕ → ℕ → ℕ → BlockSize → Result Block Refusal
  block_asked memory longest x y z =
      if nat_le (columns * rows) memory
      then (if no_side_above longest z then placed x y z else Err no.BlockSize)
      else Err no.MapMemory

  -- a square that a partition may split, at a position in the tile
  abbrev pub square_asked : ℕ → ℕ → ℕ → BlockSize → Result (Unit {0}) Refusal
  square_asked largest x y z =
      if splits largest z then (if in_tile x y z then Ok tt else Err no.Position) else Err no.BlockSize

  pub record Placed (largest x y : ℕ) (z : BlockSize) : Type 0 where
    pub square : IsTrue (splits largest z)
    pub inside : IsTrue (in_tile x y z)

  -- every row of the block lies among the tile's cells
  pub record Inside (b : Block) : Type 0 where
    pub some : 0 < b.width
    pub wide : b.width ≤ 32
    pub high : b.height ≤ 32
    pub row : (k : ℕ) → k < b.height → b.from + k * columns + b.width ≤ columns * rows

-- the lower half of a block has rows in a tile of so many rows, the right half columns
abbrev pub has_rows : ℕ → ℕ → BlockSize → Bool
has_rows rows y z = nat_lt (y + height z / 8) rows

abbrev pub has_columns : ℕ → ℕ → BlockSize → Bool
has_columns columns x z = nat_lt (x + width z / 8) columns
