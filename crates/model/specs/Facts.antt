-- Facts about the stage that code leans on, and relations in the standard's words.
use Rattle.std.specs.Prelude.{◌≡◌, ℕ, ◌+◌, ◌-◌, ◌*◌, ◌/◌, ◌%◌, ◌^◌, ◌<◌, Bool, true, false, cond, ◌&&◌, T, List, [], ◌∷◌, map, length, take, replicate, ℤ, pos, negsuc, ◌==◌, nat_le, nat_lt, slice_index, slice_index_or}
use Rattle.std.proofs.Math.Option.{none}
use Rattle.cdf.specs.declared.entry.Entry.{Entry}
use Rattle.av1.specs.declared.size.BlockSize.{BlockSize}
use Rattle.av1.specs.declared.tile.Cell.{Cell}
use Rattle.av1.specs.declared.size.BlockSize.TheVariants.{BLOCK_8X8}
use Rattle.av1.specs.declared.mv.MvSubpelPrecision.{MvSubpelPrecision}
use Rattle.av1.specs.declared.mv.MvSubpelPrecision.TheVariants as at
use Rattle.journal.specs.declared.Spot.{Spot}
use Rattle.journal.specs.declared.Spot.TheVariants as spot
use Rattle.model.specs.declared.Question.{Question}
use Rattle.model.specs.declared.Question.TheVariants as of
use Rattle.av1.specs.declared.refusal.Refusal.TheVariants as no
use Rattle.av1.specs.Alphas.{sign_of, alphas_allowed}
use Rattle.av1.specs.Vectors.{nonzero, sign_bit}
use Rattle.av1.specs.Sizes.{width, height, width_mi, height_mi, above_byte, left_byte}
use Rattle.av1.specs.Tiles.{no_cell}
use Rattle.cdf.specs.Lists.{Each}
use Rattle.cdf.specs.Words.{Words}
use Rattle.model.specs.Alphas.{alphas_path}
use Rattle.model.specs.Tree.{Leads, read, read_as}
use Rattle.model.specs.Vector.{has_row, has_col, path_if, vector_path}
use Rattle.model.specs.Runs.{Ran, run, fresh, empty_book, ask, open_trial, take_back, keep, asked, sent, settle, read_asked, reads, stopped, fault}
use Rattle.model.specs.Decisions.{State, Sound, Decision, stage, in_tile, settled, units, above_length, left_length, bit, tree, path, decided, spots, placed, allowed}
use Rattle.model.specs.Worked.{start, entry}

-- a spot lies inside
abbrev pub Inside : State → Spot → Type 0
Inside s (spot.Cell i c) = i < units s
Inside s (spot.Above i b) = i < above_length s
Inside s (spot.Left i b) = i < left_length s

-- whatever a call sets lies inside, so that nothing of it is passed over
abbrev pub SpotsInside : Type 0
SpotsInside = (s : State) (q : Question) (d : Decision q) → Sound s → placed s q ≡ none → Each (Inside s) (spots s q d)

-- the cell of a unit, and the units that a block covers
abbrev pub unit_at : State → ℕ → ℕ → Cell
unit_at s u v = slice_index_or s.cells (v * s.columns + u) no_cell

abbrev pub covers : ℕ → ℕ → BlockSize → ℕ → ℕ → Bool
covers x y z u v = (nat_le x u && nat_lt u (x + width_mi z)) && (nat_le y v && nat_lt v (y + height_mi z))

abbrev pub with_cells : State → List Cell → State
with_cells s l = record { columns = s.columns; rows = s.rows; last = s.last; words = s.words; above = s.above; left = s.left; cells = l }

-- of each unit of the tile, a skip decision sets the flag where the block covers it, and leaves all else as it was
abbrev pub SkipSet : Type 0
SkipSet =
    (s : State) (x y : ℕ) (z : BlockSize) (flag : Bool) → length s.cells ≡ units s → in_tile s x y z ≡ true
    → let next : State = settled s (of.Skip x y z) flag in
    (next ≡ with_cells s next.cells)
    × ((u v : ℕ) → u < s.columns → v < s.rows
    → unit_at next u v ≡ cond (covers x y z u v) (record { skip = flag; segment = (unit_at s u v).segment }) (unit_at s u v))

-- and a segment decision sets the segment
abbrev pub SegmentSet : Type 0
SegmentSet =
    (s : State) (x y : ℕ) (z : BlockSize) (skip : Bool) (id : ℕ) → length s.cells ≡ units s → in_tile s x y z ≡ true
    → let next : State = settled s (of.Segment x y z skip) id in
    (next ≡ with_cells s next.cells)
    × ((u v : ℕ) → u < s.columns → v < s.rows
    → unit_at next u v ≡ cond (covers x y z u v) (record { skip = (unit_at s u v).skip; segment = id }) (unit_at s u v))

-- a call writes as many entries as it has symbols, which is what room is asked for
abbrev pub Counted : Type 0
Counted =
    (s : State) (r : ℕ) (q : Question) (d : Decision q) → Sound s → asked stage s r q d ≡ none
    → length (sent stage s q (decided s q d)).entries ≡ length (path s q (decided s q d))

-- a read of any entries keeps a state sound
abbrev pub ReadsSound : Type 0
ReadsSound =
    (memory : ℕ) (s : State) (q : Question) (es rest : List Entry) (place after : ℕ) (d : Decision q) (w : Words) → Sound s → read_asked stage memory s q ≡ none
    → read s.words (tree s q) place 0 place es ≡ read_as d w rest after → Sound (settle stage s q d w)

-- a context bit says that the neighbour is narrower, or lower, than the block of size 8 × 2^j
abbrev pub ContextBits : Type 0
ContextBits =
    (z : BlockSize) (j : ℕ) → j < 4
    → (bit j (above_byte z) ≡ cond (nat_lt (width z) (8 * 2 ^ j)) 1 0) × (bit j (left_byte z) ≡ cond (nat_lt (height z) (8 * 2 ^ j)) 1 0)

-- what a fault tells: no next entry; an entry that does not fit, in a vector's second symbol; a segment's symbol above the last; a reader stays where it was
abbrev pub Faults : Type 0
Faults =
    (reads stage 4 (start 2 2 3) (of.Skip 0 0 BLOCK_8X8 ∷ []) [] 7
    ≡ stopped [] (start 2 2 3) [] 7 (fault (record { why = no.NoNextEntry; entry = 0; table = 0; place = 7 })))
    × (reads stage 4 (start 2 2 3) (of.Vector at.MV_SUBPEL_HIGH_PRECISION ∷ []) (entry 1 4 24576 16384 ∷ entry 0 2 32768 1 ∷ []) 7
    ≡ stopped [] (start 2 2 3) (entry 1 4 24576 16384 ∷ entry 0 2 32768 1 ∷ []) 7 (fault (record { why = no.EntryUnfit; entry = 1; table = 374; place = 8 })))
    × (reads stage 4 (start 2 2 3) (of.Segment 0 0 BLOCK_8X8 false ∷ []) (entry 5 8 12288 8192 ∷ []) 7
    ≡ stopped [] (start 2 2 3) (entry 5 8 12288 8192 ∷ []) 7 (fault (record { why = no.SymbolAboveLast; entry = 0; table = 30; place = 7 })))

-- a run in small: a skip flag, a trial with another and a segment taken back, alphas instead, the trial kept, and a call that is refused
abbrev pub short_run : Ran stage
short_run =
    run stage 96 (λ es. 100 - length es)
    (fresh stage (start 16 6 3) (record {
      small = replicate 4 (record { first = 0; words = [] });
      large = replicate 4 (record { first = 0; words = [] });
      spots = replicate 8 (spot.Left 0 0);
    }))
    (empty_book stage)
    (ask (of.Skip 0 0 BLOCK_8X8) true ∷ open_trial ∷ ask (of.Skip 2 0 BLOCK_8X8) false ∷ ask (of.Segment 2 0 BLOCK_8X8 false) 2 ∷ ask of.RowStart tt ∷ take_back 1 ∷ ask of.Alphas (pos 16, negsuc 15) ∷ keep 1 ∷ take_back 1 ∷ [])

abbrev pub ShortRun : Type 0
ShortRun =
    (short_run.book ≡ record { standing = record { question = of.Skip 0 0 BLOCK_8X8; decision = true } ∷ record { question = of.Alphas; decision = (pos 16, negsuc 15) } ∷ []; numbers = [] })
    × (map (λ (e : Entry). e.s) short_run.world.core.entries ≡ 1 ∷ 6 ∷ 15 ∷ 15 ∷ [])
    × (take 2 short_run.world.core.state.words ≡ 17408 ∷ 1 ∷ [])

-- the writer's symbols of every decision that the questions accept lead to it
abbrev pub AcceptedLeads : Type 0
AcceptedLeads = (s : State) (q : Question) (d : Decision q) → Sound s → allowed s q d ≡ none → Leads (tree s q) (path s q (decided s q d)) (decided s q d)

-- a vector's first symbol, the joint, names the row exactly where it is not zero, and the column likewise
abbrev pub JointNames : Type 0
JointNames =
    (p : MvSubpelPrecision) (d : ℤ × ℤ)
    → (has_row (slice_index (vector_path p d) 0) ≡ (nonzero d.0 == 1)) × (has_col (slice_index (vector_path p d) 0) ≡ (nonzero d.1 == 1))

-- a component's first symbol is its sign: 1 for a negative one
abbrev pub SignFirst : Type 0
SignFirst = (p : MvSubpelPrecision) (d : ℤ) → nonzero d ≡ 1 → slice_index (path_if p d) 0 ≡ sign_bit d

-- the first symbol of alphas has both signs: 0 for zero, 1 for negative, 2 for positive
abbrev pub SignsJoined : Type 0
SignsJoined =
    (d : ℤ × ℤ) → T (alphas_allowed d)
    → ((slice_index (alphas_path d) 0 + 1) / 3 ≡ sign_of d.0) × ((slice_index (alphas_path d) 0 + 1) % 3 ≡ sign_of d.1)
