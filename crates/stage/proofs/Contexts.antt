-- The partition contexts, set byte by byte, and what that is in the model.
use Rattle.journal.specs.declared.Mark.{Mark}
use Rattle.stage.specs.Lanes.{OnlySpots}
use Rattle.stage.proofs.Symbols.{same_marks, none_open}
use Rattle.stage.specs.View.{open_trials}
use Rattle.std.proofs.lemmas.List.{length-reverse}
use Rattle.std.proofs.Common.{◌≡◌, ℕ, zero, suc, ◌+◌, ◌/◌, ◌%◌, ◌<◌, ◌≤◌, Bool, true, false, cond, ◌&&◌, T, eqb, ltb, List, [], ◌∷◌, ◌++◌, map, length, get_or, set, replicate, Ok, Err, sym, refl, ap, ◌∙◌, ap₂, arith, eqb→eq, ltb→lt, lt→ltb}
use mathlib.Core.Option.{some}
use Rattle.std.proofs.lemmas.List.{length-append, length-map}
use Rattle.std.proofs.lemmas.Bool.{le-leb}
use Rattle.av1.specs.declared.refusal.Refusal.{Refusal}
use Rattle.av1.specs.declared.refusal.Refusal.TheVariants as no
use Rattle.av1.specs.declared.size.BlockSize.{BlockSize}
use Rattle.av1.specs.Sizes.{width, height, width_mi, height_mi, splits, fits_in, above_byte, left_byte}
use Rattle.av1.specs.Tiles as tile
use Rattle.cdf.specs.declared.entry.Entry.{Entry}
use Rattle.cdf.specs.Lists.{from}
use Rattle.cdf.proofs.Booleans.{T→true, true→T, and_first, and_second}
use Rattle.journal.specs.declared.Spot.{Spot}
use Rattle.model.specs.declared.Question.TheVariants as question
use Rattle.model.specs.Calls.{log_if, row_step, update_step, spot_step, spot_steps}
use Rattle.model.specs.Decisions.{State, stage, old_spots}
use Rattle.model.specs.Runs.{World, Lent, ask, refusal, or_else, unless, open_questions}
use Rattle.model.proofs.Facts.{bytes_inside}
use Rattle.stage.specs.declared.state.Journal.{Journal}
use Rattle.stage.specs.declared.state.bytes.Side.{Side}
use Rattle.stage.specs.declared.state.bytes.Side.TheVariants as side
use Rattle.stage.specs.Contexts.{side_length, spot_of, LoggedBytes, logged_bytes, set_byte, set_bytes}
use Rattle.stage.specs.Places.{at_each}
use Rattle.stage.specs.Questions.{need, lanes_fit, record_asked}
use Rattle.stage.specs.View.{lane, marks_of, world_at, refused_by}
use Rattle.stage.proofs.Calls.{refused_told, accepted_told, no_entries, mapless_refusal, length_olds, length_from}

-- the bytes of a side, taken out of a state and put back
abbrev pub bytes_of : Side → State → List ℕ
bytes_of side.Above s = s.above
bytes_of side.Left s = s.left

abbrev pub with_bytes : Side → State → List ℕ → State
with_bytes side.Above s l = record { columns = s.columns; rows = s.rows; last = s.last; words = s.words; above = l; left = s.left; cells = s.cells }
with_bytes side.Left s l = record { columns = s.columns; rows = s.rows; last = s.last; words = s.words; above = s.above; left = l; cells = s.cells }

-- with the lane that logs them
abbrev pub bytes_in : Side → World stage → LoggedBytes
bytes_in k w = record { bytes = bytes_of k w.core.state; spots = w.spots }

abbrev pub put_bytes : Side → World stage → LoggedBytes → World stage
put_bytes k w m =
    record {
      core = record { state = with_bytes k w.core.state m.bytes; entries = w.core.entries };
      small = w.small;
      large = w.large;
      spots = m.spots;
      marks = w.marks;
    }

kept_whole : (k : Side) (w : World stage) → put_bytes k w (bytes_in k w) ≡ w
kept_whole side.Above w = refl
kept_whole side.Left w = refl

put_again : (k : Side) (w : World stage) (m n : LoggedBytes) → put_bytes k (put_bytes k w m) n ≡ put_bytes k w n
put_again side.Above w m n = refl
put_again side.Left w m n = refl

put_own : (k : Side) (w : World stage) (m : LoggedBytes) → bytes_in k (put_bytes k w m) ≡ m
put_own side.Above w m = refl
put_own side.Left w m = refl

-- one byte
byte_step : (k : Side) (b i : ℕ) (w : World stage) → i < side_length k → spot_step (spot_of k i b) w ≡ put_bytes k w (set_byte w.marks k b i (bytes_in k w))
byte_step side.Above b i w h =
    ap (λ t. put_bytes side.Above w (record { bytes = cond t (set w.core.state.above i b) w.core.state.above; spots = log_if w.marks w.spots (spot_of side.Above i (get_or w.core.state.above i 0) ∷ []) }))
    (T→true (ltb i 512) (lt→ltb i 512 h))
byte_step side.Left b i w h =
    ap (λ t. put_bytes side.Left w (record { bytes = cond t (set w.core.state.left i b) w.core.state.left; spots = log_if w.marks w.spots (spot_of side.Left i (get_or w.core.state.left i 0) ∷ []) }))
    (T→true (ltb i 8) (lt→ltb i 8 h))

-- bytes set one after the other are the spots of the model
pub bytes_steps : (k : Side) (b n first : ℕ) (w : World stage) → first + n ≤ side_length k
    → put_bytes k w (set_bytes w.marks k b (from first n) (bytes_in k w)) ≡ spot_steps (map (λ i. spot_of k i b) (from first n)) w
bytes_steps k b zero first w h = kept_whole k w
bytes_steps k b (suc n) first w h =
    ap (λ m. put_bytes k w (set_bytes w.marks k b (from (suc first) n) m)) (sym (put_own k w one))
    ∙ sym (put_again k w one (set_bytes w.marks k b (from (suc first) n) (bytes_in k (put_bytes k w one))))
    ∙ bytes_steps k b n (suc first) (put_bytes k w one) (omega arith)
    ∙ ap (spot_steps (map (λ i. spot_of k i b) (from (suc first) n))) (sym (byte_step k b first w (omega arith)))
  where
    one : LoggedBytes
    one = set_byte w.marks k b first (bytes_in k w)

-- no trial is open: nothing is logged
quiet_bytes : (k : Side) (b : ℕ) (is : List ℕ) (m : LoggedBytes) → set_bytes [] k b is m ≡ record { bytes = at_each (λ i l. set l i b) is m.bytes; spots = m.spots }
quiet_bytes k b [] m = refl
quiet_bytes k b (i ∷ is) m = quiet_bytes k b is (set_byte [] k b i m)

-- every place of a list set to the same
all_set : (b : ℕ) (l : List ℕ) → at_each (λ i m. set m i b) (from 0 (length l)) l ≡ replicate (length l) b
all_set b [] = refl
all_set b (x ∷ xs) = behind (length xs) 0 b xs ∙ ap (λ m. b ∷ m) (all_set b xs)
  where
    behind : (n i y : ℕ) (ys : List ℕ) → at_each (λ j m. set m j b) (from (suc i) n) (y ∷ ys) ≡ y ∷ at_each (λ j m. set m j b) (from i n) ys
    behind zero i y ys = refl
    behind (suc n) i y ys = behind n (suc i) y (set ys i b)

-- a row starts
module _ (memory : ℕ) (rooms : List Entry → ℕ) (s : State) (j : Journal) (l : Lent stage) (es : List Entry) where
  pub row_refused : 0 < open_trials j → (Err no.TrialOpen, world_at s j l es) ≡ row_step memory rooms (world_at s j l es)
  unfolding row_step
  row_refused h = refused_told memory rooms tt question.RowStart tt (world_at s j l es) no.TrialOpen (no_entries (rooms es) _ ∙ go (marks_of j) (omega (arith, length-reverse j.marks.items)))
    where
      go : (ms : List Mark) → 0 < length ms → open_questions stage (world_at s j l es) question.RowStart tt ms ≡ some no.TrialOpen
      go [] e = absurd (omega arith)
      go (m ∷ ms) e = refl

  pub row_started : open_trials j ≡ 0 → length s.left ≡ 8 → (Ok tt, world_at (with_bytes side.Left s (replicate 8 0)) j l es) ≡ row_step memory rooms (world_at s j l es)
  unfolding row_step
  row_started h long =
      accepted_told memory rooms tt tt question.RowStart tt (world_at s j l es) (world_at (with_bytes side.Left s (replicate 8 0)) j l es) (no_entries (rooms es) _ ∙ ap (open_questions stage (world_at s j l es) question.RowStart tt) (none_open j h)) refl after
    where
      w : World stage
      w = world_at s j l es

      cleared : at_each (λ i m. set m i 0) (from 0 8) s.left ≡ replicate 8 0
      cleared = ap (λ n. at_each (λ i m. set m i 0) (from 0 n) s.left) (sym long) ∙ all_set 0 s.left ∙ ap (λ n. replicate n 0) long

      after : world_at (with_bytes side.Left s (replicate 8 0)) j l es ≡ spot_steps (map (λ i. spot_of side.Left i 0) (from 0 8)) (world_at s j l es)
      after =
          ap (λ z. world_at (with_bytes side.Left s z) j l es) (sym cleared)
          ∙ ap (put_bytes side.Left w) (sym (ap (λ ms. set_bytes ms side.Left 0 (from 0 8) (bytes_in side.Left w)) (none_open j h) ∙ quiet_bytes side.Left 0 (from 0 8) (bytes_in side.Left w)))
          ∙ bytes_steps side.Left 0 8 0 w (omega arith)

-- the world after bytes are set, from what became of its parts
bytes_world : (k : Side) (s : State) (j j' : Journal) (l l' : Lent stage) (es : List Entry) (bytes : List ℕ) (m : LoggedBytes)
    → logged_bytes bytes l'.spots j'.used.spots ≡ m
    → l'.small ≡ l.small → l'.large ≡ l.large → OnlySpots j' j
    → world_at (with_bytes k s bytes) j' l' es ≡ put_bytes k (world_at s j l es) m
bytes_world k s j j' l l' es bytes m e a b kept =
    λ i. record {
      core = record { state = with_bytes k s (e i).bytes; entries = es };
      small = lane (a i) (kept.small i);
      large = lane (b i) (kept.large i);
      spots = (e i).spots;
      marks = same_marks j' j kept i;
    }

steps_append : (ps qs : List Spot) (w : World stage) → spot_steps (ps ++ qs) w ≡ spot_steps qs (spot_steps ps w)
steps_append [] qs w = refl
steps_append (p ∷ ps) qs w = steps_append ps qs (spot_step p w)

-- the bytes of a square lie in the contexts
pub spans_inside : (columns rows x y : ℕ) (z : BlockSize) → columns ≤ 1024 → splits 64 z ≡ true → tile.in_tile columns rows x y z ≡ true → (x / 2 + width z / 8 ≤ 512) × ((y % 16) / 2 + height z / 8 ≤ 8)
spans_inside columns rows x y z most square placed =
    bytes_inside x y z (let l : x < columns = ltb→lt x columns (and_first (ltb x columns) _ at) in omega arith) (true→T (splits 64 z) square)
    (eqb→eq (x % width_mi z) 0 (and_first (eqb (x % width_mi z) 0) _ (and_second (ltb y rows) _ (and_second (ltb x columns) _ at))))
    (eqb→eq (y % height_mi z) 0 (and_second (eqb (x % width_mi z) 0) _ (and_second (ltb y rows) _ (and_second (ltb x columns) _ at))))
  where
    at : T (tile.in_tile columns rows x y z)
    at = true→T (tile.in_tile columns rows x y z) placed

-- the contexts are updated
module _ (memory : ℕ) (rooms : List Entry → ℕ) (s : State) (j : Journal) (l : Lent stage) (es : List Entry) (x y : ℕ) (z sub : BlockSize) where
  spans_length : length (old_spots s (map (λ i. spot_of side.Above i (above_byte sub)) (from (x / 2) (width z / 8)) ++ map (λ i. spot_of side.Left i (left_byte sub)) (from ((y % 16) / 2) (height z / 8)))) ≡ width z / 8 + height z / 8
  spans_length =
      length_olds (as' ++ bs) s ∙ length-append as' bs
      ∙ ap₂ (λ m n. m + n) (length-map (from (x / 2) (width z / 8)) (λ i. spot_of side.Above i (above_byte sub)) ∙ length_from (width z / 8) (x / 2))
      (length-map (from ((y % 16) / 2) (height z / 8)) (λ i. spot_of side.Left i (left_byte sub)) ∙ length_from (height z / 8) ((y % 16) / 2))
    where
      as' : List Spot
      as' = map (λ i. spot_of side.Above i (above_byte sub)) (from (x / 2) (width z / 8))

      bs : List Spot
      bs = map (λ i. spot_of side.Left i (left_byte sub)) (from ((y % 16) / 2) (height z / 8))

  questions : refusal stage memory rooms (world_at s j l es) (ask (question.ContextUpdate x y z sub) tt)
      ≡ or_else (or_else (unless (splits 64 z && fits_in sub z) no.BlockSize) (unless (tile.in_tile s.columns s.rows x y z) no.Position)) (refused_by (record_asked j l 0 0 (need 0 0 (width z / 8 + height z / 8))))
  questions =
      mapless_refusal memory rooms s j l es (question.ContextUpdate x y z sub) tt 0 0 0 (width z / 8 + height z / 8) refl refl refl refl refl spans_length
      ∙ ap (λ b. or_else (or_else (unless (splits 64 z && fits_in sub z) no.BlockSize) (unless (tile.in_tile s.columns s.rows x y z) no.Position)) (refused_by (cond b (cond (lanes_fit j l (need 0 0 (width z / 8 + height z / 8))) (Ok (tt {0})) (Err no.LogRoom)) (Err no.Room))))
      (le-leb 0 (rooms es) (omega arith))

  refused_told_by : (e : Refusal) → or_else (or_else (unless (splits 64 z && fits_in sub z) no.BlockSize) (unless (tile.in_tile s.columns s.rows x y z) no.Position)) (refused_by (record_asked j l 0 0 (need 0 0 (width z / 8 + height z / 8)))) ≡ some e
      → (Err e, world_at s j l es) ≡ update_step memory rooms x y z sub (world_at s j l es)
  unfolding update_step
  refused_told_by e h = refused_told memory rooms tt (question.ContextUpdate x y z sub) tt (world_at s j l es) e (questions ∙ h)

  pub update_unfit : fits_in sub z ≡ false → (Err no.BlockSize, world_at s j l es) ≡ update_step memory rooms x y z sub (world_at s j l es)
  update_unfit h = refused_told_by no.BlockSize (go (splits 64 z) (fits_in sub z) h)
    where
      go : (a b : Bool) → b ≡ false → or_else (or_else (unless (a && b) no.BlockSize) (unless (tile.in_tile s.columns s.rows x y z) no.Position)) (refused_by (record_asked j l 0 0 (need 0 0 (width z / 8 + height z / 8)))) ≡ some no.BlockSize
      go true true e = absurd (true→T false (sym e))
      go true false e = refl
      go false b e = refl

  placed_as : fits_in sub z ≡ true → or_else (unless (splits 64 z && fits_in sub z) no.BlockSize) (unless (tile.in_tile s.columns s.rows x y z) no.Position) ≡ refused_by (tile.square_asked s.columns s.rows 64 x y z)
  placed_as h = go (splits 64 z) (fits_in sub z) (tile.in_tile s.columns s.rows x y z) h
    where
      go : (a b c : Bool) → b ≡ true → or_else (unless (a && b) no.BlockSize) (unless c no.Position) ≡ refused_by (cond a (cond c (Ok (tt {0})) (Err no.Position)) (Err no.BlockSize))
      go a false c e = absurd (true→T false e)
      go true true true e = refl
      go true true false e = refl
      go false true c e = refl

  pub update_unplaced : (e : Refusal) → fits_in sub z ≡ true → Err e ≡ tile.square_asked s.columns s.rows 64 x y z → (Err e, world_at s j l es) ≡ update_step memory rooms x y z sub (world_at s j l es)
  update_unplaced e h k = refused_told_by e (ap (λ o. or_else o (refused_by (record_asked j l 0 0 (need 0 0 (width z / 8 + height z / 8))))) (placed_as h ∙ ap refused_by (sym k)))

  module _ (u : Unit {0}) (fit : fits_in sub z ≡ true) (square : Ok u ≡ tile.square_asked s.columns s.rows 64 x y z) (n : ℕ) (spread : n ≡ width z / 8 + height z / 8) where
    asked_then : or_else (or_else (unless (splits 64 z && fits_in sub z) no.BlockSize) (unless (tile.in_tile s.columns s.rows x y z) no.Position)) (refused_by (record_asked j l 0 0 (need 0 0 (width z / 8 + height z / 8))))
        ≡ refused_by (record_asked j l 0 0 (need 0 0 n))
    asked_then = ap₂ (λ o m. or_else o (refused_by (record_asked j l 0 0 (need 0 0 m)))) (placed_as fit ∙ ap refused_by (sym square)) (sym spread)

    pub update_unlogged : (e : Refusal) → Err e ≡ record_asked j l 0 0 (need 0 0 n) → (Err e, world_at s j l es) ≡ update_step memory rooms x y z sub (world_at s j l es)
    update_unlogged e k = refused_told_by e (asked_then ∙ ap refused_by (sym k))

    pub updated_world : (o : Unit {0}) (j' j'' : Journal) (l' l'' : Lent stage) (above left : List ℕ) (a b wide high : ℕ)
        → Ok o ≡ record_asked j l 0 0 (need 0 0 n)
        → (x / 2 + width z / 8 ≤ 512) × ((y % 16) / 2 + height z / 8 ≤ 8) → a ≡ above_byte sub → b ≡ left_byte sub → wide ≡ width z / 8 → high ≡ height z / 8
        → logged_bytes above l'.spots j'.used.spots ≡ set_bytes (marks_of j) side.Above a (from (x / 2) wide) (logged_bytes s.above l.spots j.used.spots)
        → logged_bytes left l''.spots j''.used.spots ≡ set_bytes (marks_of j') side.Left b (from ((y % 16) / 2) high) (logged_bytes s.left l'.spots j'.used.spots)
        → l'.small ≡ l.small → l'.large ≡ l.large → l''.small ≡ l'.small → l''.large ≡ l'.large
        → OnlySpots j' j
        → OnlySpots j'' j'
        → (Ok tt, world_at (with_bytes side.Left (with_bytes side.Above s above) left) j'' l'' es) ≡ update_step memory rooms x y z sub (world_at s j l es)
    unfolding update_step
    updated_world o j' j'' l' l'' above left a b wide high asked inside ab lb we he over beside a1 b1 a2 b2 kept kept' =
        accepted_told memory rooms tt tt (question.ContextUpdate x y z sub) tt (world_at s j l es) (world_at (with_bytes side.Left (with_bytes side.Above s above) left) j'' l'' es)
        (questions ∙ asked_then ∙ ap refused_by (sym asked)) refl
        (second ∙ sym (steps_append (map (λ i. spot_of side.Above i (above_byte sub)) (from (x / 2) (width z / 8))) (map (λ i. spot_of side.Left i (left_byte sub)) (from ((y % 16) / 2) (height z / 8))) (world_at s j l es)))
      where
        one : World stage
        one = world_at (with_bytes side.Above s above) j' l' es

        first : world_at (with_bytes side.Above s above) j' l' es ≡ spot_steps (map (λ i. spot_of side.Above i (above_byte sub)) (from (x / 2) (width z / 8))) (world_at s j l es)
        first =
            bytes_world side.Above s j j' l l' es above _ over a1 b1 kept
            ∙ ap₂ (λ v n. put_bytes side.Above (world_at s j l es) (set_bytes (marks_of j) side.Above v (from (x / 2) n) (logged_bytes s.above l.spots j.used.spots))) ab we
            ∙ bytes_steps side.Above (above_byte sub) (width z / 8) (x / 2) (world_at s j l es) inside.0

        second : world_at (with_bytes side.Left (with_bytes side.Above s above) left) j'' l'' es
            ≡ spot_steps (map (λ i. spot_of side.Left i (left_byte sub)) (from ((y % 16) / 2) (height z / 8))) (spot_steps (map (λ i. spot_of side.Above i (above_byte sub)) (from (x / 2) (width z / 8))) (world_at s j l es))
        second =
            bytes_world side.Left (with_bytes side.Above s above) j' j'' l' l'' es left _ beside a2 b2 kept'
            ∙ ap₂ (λ v n. put_bytes side.Left one (set_bytes (marks_of j') side.Left v (from ((y % 16) / 2) n) (logged_bytes s.left l'.spots j'.used.spots))) lb he
            ∙ bytes_steps side.Left (left_byte sub) (height z / 8) ((y % 16) / 2) one inside.1
            ∙ ap (spot_steps (map (λ i. spot_of side.Left i (left_byte sub)) (from ((y % 16) / 2) (height z / 8)))) first
