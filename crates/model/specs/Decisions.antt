-- The state of a tile, and what each decision means in it: its questions, its syntax, what it sets and what it logs.
use Rattle.std.specs.Prelude.{◌≡◌, ℕ, zero, suc, ◌+◌, ◌*◌, ◌/◌, ◌%◌, ◌^◌, ◌<◌, ◌≤◌, min, Bool, true, false, cond, not, ◌&&◌, ◌||◌, T, List, [], ◌∷◌, ◌++◌, map, length, ℤ, ◌==◌, nat_le, nat_lt, slice_index, slice_index_or}
use Rattle.std.proofs.Math.Option.{Option, none, some}
use mir.Val.{bool_byte}
use Rattle.std.specs.declared.option.Option as std
use Rattle.av1.specs.declared.tile.Block.{Block}
use Rattle.av1.specs.declared.tile.Cell.{Cell}
use Rattle.journal.specs.declared.Window.{Window}
use Rattle.journal.specs.declared.Spot.{Spot}
use Rattle.journal.specs.declared.Spot.TheVariants as spot
use Rattle.journal.specs.Spots.{put_below}
use Rattle.av1.specs.declared.size.BlockSize.{BlockSize}
use Rattle.model.specs.declared.Question.{Question}
use Rattle.model.specs.declared.Question.TheVariants as of
use Rattle.av1.specs.declared.refusal.Refusal.{Refusal}
use Rattle.av1.specs.declared.refusal.Refusal.TheVariants as no
use Rattle.av1.specs.Alphas.{alphas_allowed}
use Rattle.av1.specs.Segments.{prev, natural, segment_context, segment_prediction, interleaved, deinterleaved}
use Rattle.av1.specs.Sides.{side}
use Rattle.av1.specs.Sizes.{width, height, above_byte, left_byte, level, splits, no_side_above, fits_in}
use Rattle.av1.specs.Tiles as tile
use Rattle.av1.specs.Tiles.{no_cell}
use Rattle.cdf.specs.Layout.{SoundWords, in_layout}
use Rattle.cdf.specs.Lists.{from}
use Rattle.cdf.specs.Windows.{window, taken_window, put_window, small_place, large_place}
use Rattle.cdf.specs.Words.{Words, Table, table}
use Rattle.model.specs.Coders.{whole, edge, after}
use Rattle.model.specs.Tree.{Syntax, done, never, coded, written}
use Rattle.model.specs.Alphas.{alphas_tree, alphas_path}
use Rattle.model.specs.Vector.{vector_tree, vector_path, in_range, fits_precision}
use Rattle.model.specs.Subject.{Subject, Trail}
use Rattle.model.specs.Runs.{or_else, unless}

-- a tile: its columns and rows of units, the last active segment, the tables' words, the context bytes, and its cells row by row
pub record State : Type 0 where
  pub columns : ℕ
  pub rows : ℕ
  pub last : ℕ
  pub words : Words
  pub above : List ℕ
  pub left : List ℕ
  pub cells : List Cell

abbrev pub units : State → ℕ
units s = s.columns * s.rows

-- the side of a superblock in units, and the longest side of a block in pixels
abbrev pub superblock : State → ℕ
superblock s = 16

abbrev pub longest : State → ℕ
longest s = 64

-- how many context bytes there are, each for 8 pixels: above the tile, and left of a superblock
abbrev pub above_length : State → ℕ
above_length s = 512

abbrev pub left_length : State → ℕ
left_length s = superblock s / 2

pub record Sound (s : State) : Type 0 where
  pub wide : side s.columns ≡ true
  pub high : side s.rows ≡ true
  pub ends : s.last ≤ 7
  pub tables : SoundWords s.words
  pub over : length s.above ≡ above_length s
  pub beside : length s.left ≡ left_length s
  pub mapped : length s.cells ≡ units s

-- the questions of a start
abbrev pub start_asked : ℕ → ℕ → ℕ → ℕ → Option Refusal
start_asked columns rows last memory =
    or_else (unless (side columns && side rows) no.TileSize) (or_else (unless (nat_le last 7) no.LastSegment) (unless (nat_le (columns * rows) memory) no.MapMemory))

abbrev pub with_words : State → Words → State
with_words s w = record { columns = s.columns; rows = s.rows; last = s.last; words = w; above = s.above; left = s.left; cells = s.cells }

-- a spot is set, or put back; passed over where it names a place outside
abbrev pub put_spot : State → Spot → State
put_spot s (spot.Cell i c) =
    record { columns = s.columns; rows = s.rows; last = s.last; words = s.words; above = s.above; left = s.left; cells = put_below (units s) i c s.cells }
put_spot s (spot.Above i b) =
    record { columns = s.columns; rows = s.rows; last = s.last; words = s.words; above = put_below (above_length s) i b s.above; left = s.left; cells = s.cells }
put_spot s (spot.Left i b) =
    record { columns = s.columns; rows = s.rows; last = s.last; words = s.words; above = s.above; left = put_below (left_length s) i b s.left; cells = s.cells }

-- what stands at the spot
abbrev pub old_spot : State → Spot → Spot
old_spot s (spot.Cell i c) = spot.Cell i (slice_index_or s.cells i no_cell)
old_spot s (spot.Above i b) = spot.Above i (slice_index s.above i)
old_spot s (spot.Left i b) = spot.Left i (slice_index s.left i)

abbrev pub put_spots : State → List Spot → State
put_spots s [] = s
put_spots s (p ∷ ps) = put_spots (put_spot s p) ps

abbrev pub old_spots : State → List Spot → List Spot
old_spots s [] = []
old_spots s (p ∷ ps) = old_spot s p ∷ old_spots (put_spot s p) ps

-- a window put back, of any width
abbrev pub put_back : {n : ℕ} → State → Window n → State
put_back s r = with_words s (put_window r.first r.words s.words)

abbrev pub takes : {n : ℕ} → State → Window n → Bool
takes s r = taken_window r.first r.words s.words

-- windows of 4 words lie among the tables of up to 4 symbols, those of 16 among the larger
abbrev pub InSmall : Window 4 → Type 0
InSmall r = T (small_place r.first) × (length r.words ≤ 4)

abbrev pub InLarge : Window 16 → Type 0
InLarge r = T (large_place r.first) × (length r.words ≤ 16)

abbrev pub window_at : (n : ℕ) → Words → ℕ → Window n
window_at n w f = record { first = f; words = window n w f }

abbrev pub add_if : {A : Type 0} → Bool → A → List A → List A
add_if true a as' = a ∷ as'
add_if false a as' = as'

-- the windows of the tables that the symbols adapt, of those whose number of symbols is taken
abbrev pub windows_of : {D : Type 0} → (n : ℕ) → (ℕ → Bool) → Words → Syntax D → List ℕ → List (Window n)
windows_of n taken w (done d) p = []
windows_of n taken w (never m) p = []
windows_of n taken w (coded k f) [] = []
windows_of n taken w (coded (whole t) f) (s ∷ p) = add_if (taken t.count) (window_at n w t.first) (windows_of n taken (after w (whole t) s) (f s) p)
windows_of n taken w (coded (edge t ss) f) (s ∷ p) = windows_of n taken w (f s) p

-- 4 words where the table has up to 4 symbols, else 16
abbrev pub is_small : ℕ → Bool
is_small count = nat_le count 4

abbrev pub is_large : ℕ → Bool
is_large count = not (nat_le count 4)

abbrev pub small_of : {D : Type 0} → Words → Syntax D → List ℕ → List (Window 4)
small_of w t p = windows_of 4 is_small w t p

abbrev pub large_of : {D : Type 0} → Words → Syntax D → List ℕ → List (Window 16)
large_of w t p = windows_of 16 is_large w t p

-- partitions by number
abbrev pub HORZ : ℕ
HORZ = 1

abbrev pub VERT : ℕ
VERT = 2

abbrev pub SPLIT : ℕ
SPLIT = 3

abbrev pub bit : ℕ → ℕ → ℕ
bit j b = (b / 2 ^ j) % 2

-- the context bytes at a position: above counts from the tile's edge, left from the superblock's
abbrev pub above_place : ℕ → ℕ
above_place x = x / 2

abbrev pub left_place : State → ℕ → ℕ
left_place s y = (y % superblock s) / 2

-- the context of a block of size 8 × 2^j, less 4j
abbrev pub context : State → ℕ → ℕ → ℕ → ℕ
context s x y j = 2 * bit j (slice_index s.left (left_place s y)) + bit j (slice_index s.above (above_place x))

abbrev pub partition_table : ℕ → ℕ → Table
partition_table zero c = table (6 + 4 * c) 4
partition_table (suc j) c = table (86 + 10 * (4 * j + c)) 10

abbrev pub table_at : State → ℕ → ℕ → BlockSize → Table
table_at s x y z = partition_table (level z) (context s x y (level z))

-- the half of a block lies inside the tile
abbrev pub has_rows : State → ℕ → BlockSize → Bool
has_rows s y z = tile.has_rows s.rows y z

abbrev pub has_columns : State → ℕ → BlockSize → Bool
has_columns s x z = tile.has_columns s.columns x z

-- an edge symbol: 1 splits, 0 is the partition named
abbrev pub edge_says : ℕ → ℕ → ℕ
edge_says other zero = other
edge_says other (suc n) = SPLIT

-- rows present, columns present
abbrev pub partition_tree : Bool → Bool → Table → Syntax ℕ
partition_tree true true t = coded (whole t) (λ s. done s)
partition_tree false true t = coded (edge t (2 ∷ 3 ∷ 4 ∷ 6 ∷ 7 ∷ 9 ∷ [])) (λ s. done (edge_says HORZ s))
partition_tree true false t = coded (edge t (1 ∷ 3 ∷ 4 ∷ 5 ∷ 6 ∷ 8 ∷ [])) (λ s. done (edge_says VERT s))
partition_tree false false t = done SPLIT

abbrev pub partition_path : Bool → Bool → ℕ → List ℕ
partition_path true true p = p ∷ []
partition_path false true p = cond (p == SPLIT) 1 0 ∷ []
partition_path true false p = cond (p == SPLIT) 1 0 ∷ []
partition_path false false p = []

abbrev pub partition_allowed : Bool → Bool → Table → ℕ → Bool
partition_allowed true true t p = nat_lt p t.count
partition_allowed false true t p = p == SPLIT || p == HORZ
partition_allowed true false t p = p == SPLIT || p == VERT
partition_allowed false false t p = p == SPLIT

-- neighbours; one outside the tile is absent
abbrev pub above_of : State → ℕ → ℕ → std.Option Cell
above_of s x y = tile.above_of s.columns s.rows s.cells x y

abbrev pub left_of : State → ℕ → ℕ → std.Option Cell
left_of s x y = tile.left_of s.columns s.rows s.cells x y

abbrev pub above_left_of : State → ℕ → ℕ → std.Option Cell
above_left_of s x y = tile.above_left_of s.columns s.rows s.cells x y

abbrev pub skip_context : State → ℕ → ℕ → ℕ
skip_context s x y = tile.skip_context s.columns s.rows s.cells x y

abbrev pub flag_read : ℕ → Bool
flag_read zero = false
flag_read (suc n) = true

abbrev pub flag_symbol : Bool → ℕ
flag_symbol flag = bool_byte flag

abbrev pub near_segments : {A : Type 0} → (ℤ → ℤ → ℤ → A) → State → ℕ → ℕ → A
near_segments f s x y = f (prev (above_left_of s x y)) (prev (above_of s x y)) (prev (left_of s x y))

-- the prediction is clamped to the last active segment
unfoldable pub prediction : State → ℕ → ℕ → ℕ
prediction s x y = min (natural (near_segments segment_prediction s x y)) s.last

unfoldable pub segment_number : State → ℕ → ℕ → ℕ
segment_number s x y = near_segments segment_context s x y

-- the standard's inverse; a symbol above the last active segment is refused
abbrev pub segment_read : ℕ → ℕ → ℕ → Syntax ℕ
segment_read last near v = cond (nat_le v last) (done (deinterleaved v near (last + 1))) (never no.SymbolAboveLast)

abbrev pub segment_tree : Bool → ℕ → ℕ → ℕ → Syntax ℕ
segment_tree true number last near = done near
segment_tree false number last near = coded (whole (table (30 + 8 * number) 8)) (segment_read last near)

abbrev pub segment_path : Bool → ℕ → ℕ → ℕ → List ℕ
segment_path true last near id = []
segment_path false last near id = interleaved id near (last + 1) ∷ []

-- what answers a question: a partition's number, a flag, a segment's number, two alphas, a row and a column, or nothing
abbrev pub Decision : Question → Type 0
Decision (of.Partition x y z) = ℕ
Decision (of.Skip x y z) = Bool
Decision (of.Segment x y z skip) = ℕ
Decision of.Alphas = ℤ × ℤ
Decision (of.Vector p) = ℤ × ℤ
Decision (of.ContextUpdate x y z sub) = Unit {0}
Decision of.RowStart = Unit {0}

abbrev pub tree : State → (q : Question) → Syntax (Decision q)
tree s (of.Partition x y z) = partition_tree (has_rows s y z) (has_columns s x z) (table_at s x y z)
tree s (of.Skip x y z) = coded (whole (table (2 * skip_context s x y) 2)) (λ v. done (flag_read v))
tree s (of.Segment x y z skip) = segment_tree skip (segment_number s x y) s.last (prediction s x y)
tree s of.Alphas = alphas_tree
tree s (of.Vector p) = vector_tree p
tree s (of.ContextUpdate x y z sub) = done tt
tree s of.RowStart = done tt

abbrev pub path : State → (q : Question) → Decision q → List ℕ
path s (of.Partition x y z) d = partition_path (has_rows s y z) (has_columns s x z) d
path s (of.Skip x y z) d = flag_symbol d ∷ []
path s (of.Segment x y z skip) d = segment_path skip s.last (prediction s x y) d
path s of.Alphas d = alphas_path d
path s (of.Vector p) d = vector_path p d
path s (of.ContextUpdate x y z sub) d = []
path s of.RowStart d = []

-- a skipped segment is the prediction
abbrev pub segment_decided : Bool → ℕ → ℕ → ℕ
segment_decided true near id = near
segment_decided false near id = id

abbrev pub decided : State → (q : Question) → Decision q → Decision q
decided s (of.Partition x y z) d = d
decided s (of.Skip x y z) d = d
decided s (of.Segment x y z skip) d = segment_decided skip (prediction s x y) d
decided s of.Alphas d = d
decided s (of.Vector p) d = d
decided s (of.ContextUpdate x y z sub) d = d
decided s of.RowStart d = d

-- the block's cells inside the tile, row by row: n rows of so many cells, the first from i on
abbrev pub block_cells : ℕ → ℕ → ℕ → ℕ → List ℕ
block_cells columns wide i zero = []
block_cells columns wide i (suc n) = from i wide ++ block_cells columns wide (i + columns) n

unfoldable pub cells_of : State → ℕ → ℕ → BlockSize → List ℕ
cells_of s x y z =
    let b : Block = tile.block_at s.columns s.rows x y z in
    block_cells s.columns b.width b.from b.height

abbrev pub skip_spot : State → Bool → ℕ → Spot
skip_spot s v i = spot.Cell i (record { skip = v; segment = (slice_index_or s.cells i no_cell).segment })

abbrev pub segment_spot : State → ℕ → ℕ → Spot
segment_spot s v i = spot.Cell i (record { skip = (slice_index_or s.cells i no_cell).skip; segment = v })

-- what a decision sets in map and contexts
abbrev pub spots : State → (q : Question) → Decision q → List Spot
spots s (of.Partition x y z) d = []
spots s (of.Skip x y z) d = map (skip_spot s d) (cells_of s x y z)
spots s (of.Segment x y z skip) d = map (segment_spot s d) (cells_of s x y z)
spots s of.Alphas d = []
spots s (of.Vector p) d = []
spots s (of.ContextUpdate x y z sub) d =
    map (λ i. spot.Above i (above_byte sub)) (from (above_place x) (width z / 8)) ++ map (λ i. spot.Left i (left_byte sub)) (from (left_place s y) (height z / 8))
spots s of.RowStart d = map (λ i. spot.Left i 0) (from 0 (left_length s))

abbrev pub settled : State → (q : Question) → Decision q → State
settled s q d = put_spots s (spots s q d)

abbrev pub brings_map : Question → Bool
brings_map (of.Partition x y z) = false
brings_map (of.Skip x y z) = true
brings_map (of.Segment x y z skip) = true
brings_map of.Alphas = false
brings_map (of.Vector p) = false
brings_map (of.ContextUpdate x y z sub) = false
brings_map of.RowStart = false

abbrev pub in_tile : State → ℕ → ℕ → BlockSize → Bool
in_tile s x y z = tile.in_tile s.columns s.rows x y z

abbrev pub placed : State → Question → Option Refusal
placed s (of.Partition x y z) = or_else (unless (splits (longest s) z) no.BlockSize) (unless (in_tile s x y z) no.Position)
placed s (of.Skip x y z) = or_else (unless (no_side_above (longest s) z) no.BlockSize) (unless (in_tile s x y z) no.Position)
placed s (of.Segment x y z skip) = or_else (unless (no_side_above (longest s) z) no.BlockSize) (unless (in_tile s x y z) no.Position)
placed s of.Alphas = none
placed s (of.Vector p) = none
placed s (of.ContextUpdate x y z sub) = or_else (unless (splits (longest s) z && fits_in sub z) no.BlockSize) (unless (in_tile s x y z) no.Position)
placed s of.RowStart = none

abbrev pub allowed : State → (q : Question) → Decision q → Option Refusal
allowed s (of.Partition x y z) d = unless (partition_allowed (has_rows s y z) (has_columns s x z) (table_at s x y z) d) no.Partition
allowed s (of.Skip x y z) d = none
allowed s (of.Segment x y z skip) d = unless (skip || nat_le d s.last) no.Segment
allowed s of.Alphas d = unless (alphas_allowed d) no.Alphas
allowed s (of.Vector p) d = or_else (unless (in_range d) no.VectorRange) (unless (fits_precision p d) no.VectorPrecision)
allowed s (of.ContextUpdate x y z sub) d = none
allowed s of.RowStart d = none

abbrev pub asked_open : Question → Option Refusal
asked_open (of.Partition x y z) = none
asked_open (of.Skip x y z) = none
asked_open (of.Segment x y z skip) = none
asked_open of.Alphas = none
asked_open (of.Vector p) = none
asked_open (of.ContextUpdate x y z sub) = none
asked_open of.RowStart = some no.TrialOpen

-- every table that a tree may name is one of the layout's, and what it leads to is as R says
abbrev pub TablesIn : {D : Type 0} → (D → Type 0) → Syntax D → Type 0
TablesIn R (done d) = R d
TablesIn R (never n) = Unit {0}
TablesIn R (coded (whole t) f) = (in_layout t ≡ true) × ((s : ℕ) → s < t.count → TablesIn R (f s))
TablesIn R (coded (edge t ss) f) = (in_layout t ≡ true) × ((s : ℕ) → s < 2 → TablesIn R (f s))

abbrev pub TreesInLayout : Type 0
TreesInLayout = (s : State) (q : Question) → placed s q ≡ none → TablesIn (λ (d : Decision q). Unit {0}) (tree s q)

-- the undo records of a call: a window for each symbol that adapts, a spot for each cell or byte set
abbrev pub trail : State → (q : Question) → Decision q → Trail (Window 4) (Window 16) Spot
trail s q d =
    record {
      small = small_of s.words (tree s q) (path s q d);
      large = large_of s.words (tree s q) (path s q d);
      spots = old_spots (with_words s (written s.words (tree s q) (path s q d)).words) (spots (with_words s (written s.words (tree s q) (path s q d)).words) q d);
    }

abbrev pub stage : Subject
stage =
    record {
      State = State;
      Sound = Sound;
      Question = Question;
      Decision = Decision;
      Small = Window 4;
      Large = Window 16;
      Spot = Spot;
      words = λ s. s.words;
      with_words = with_words;
      units = units;
      brings_map = brings_map;
      tree = tree;
      path = path;
      settled = settled;
      decided = decided;
      placed = placed;
      allowed = allowed;
      asked_open = asked_open;
      trail = trail;
      put_small = put_back;
      put_large = put_back;
      put_spot = put_spot;
      takes_small = takes;
      takes_large = takes;
      InSmall = InSmall;
      InLarge = InLarge;
    }
