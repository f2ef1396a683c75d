-- A vector decision of the stage is the model's.
use Rattle.std.proofs.Common.{◌≡◌, ℕ, zero, suc, ◌+◌, ◌*◌, ◌/◌, ◌%◌, ◌<◌, ◌≤◌, Bool, true, false, not, ◌&&◌, T, eqb, leb, List, [], ◌∷◌, ◌++◌, length, ℤ, pos, negsuc, Ok, Err, sym, refl, ap, ◌∙◌, subst, ap₂, subst₂, arith, le→leb, eqb→eq, leb→le}
use mathlib.Core.Option.{Option}
use lib.Dec.{eqb-suc-zero}
use mir.Val.{bool_byte}
use Rattle.std.proofs.lemmas.List.{length-map}
use Rattle.av1.specs.declared.mv.MvSubpelPrecision.{MvSubpelPrecision}
use Rattle.av1.specs.declared.mv.MvSubpelPrecision.TheVariants as at
use Rattle.av1.specs.declared.refusal.Refusal.{Refusal}
use Rattle.av1.specs.declared.refusal.Refusal.TheVariants as no
use Rattle.av1.specs.Vectors.{class_base, class_of, magnitude, nonzero, offset_of, signed}
use Rattle.cdf.specs.declared.entry.Entry.{Entry}
use Rattle.cdf.proofs.Booleans.{T→true, and_both}
use Rattle.model.specs.declared.Question.TheVariants as question
use Rattle.model.specs.Calls.{decision_step, symbol_steps}
use Rattle.model.specs.Decisions.{State, stage}
use Rattle.model.specs.Runs.{World, Lent, ask, refusal, or_else, unless, open_questions, sent}
use Rattle.model.specs.Tree.{Leads, Syntax, and_then, one, read_by}
use Rattle.model.specs.Vector.{Fits, class_width, component_if, component_path, component_tree, fits_precision, fraction_path, fraction_tree, has_col, has_row, high_path, high_tree, in_range, integer_path, integer_tree, path_if, present, step_of, vector_path, vector_tree}
use Rattle.model.proofs.Reading.{written_symbols}
use Rattle.model.proofs.Vectors.{Inside, component_leads_if, fits_less, inside, joint_below, joint_col, joint_row, leads_fraction, leads_integer, vector_leads}
use Rattle.model.proofs.Windows.{Adapts, adapts_bits, adapts_by, adapts_then}
use Rattle.stage.specs.declared.state.Journal.{Journal}
use Rattle.stage.specs.Coding.{Coded, Moment, RoomFor}
use Rattle.stage.specs.Questions.{LanesFit, need, record_asked}
use Rattle.stage.specs.Vectors.{component_count, fraction_count, high_count, integer_count, offset_count, offset_path, offset_tree}
use Rattle.stage.specs.View.{lanes, marks_of, world_at, refused_by}
use Rattle.stage.proofs.Calls.{accepted_step, record_refusal, refused_step}
use Rattle.stage.proofs.Coding.{coded_by, coded_then}
use Rattle.stage.proofs.Vectors.{SplitAs, split_as}

-- what the questions on a component ask
pub record Allowed (p : MvSubpelPrecision) (d : ℤ) : Type 0 where
  pub range : magnitude d ≤ 16384
  pub fine : magnitude d % step_of p ≡ 0

-- how many windows a vector logs
abbrev pub vector_small : MvSubpelPrecision → ℤ → ℤ → ℕ
vector_small p row col = 1 + (component_count p (magnitude row) + component_count p (magnitude col))

abbrev pub vector_large : ℤ → ℤ → ℕ
vector_large row col = nonzero row + nonzero col

adapts_integer : (b c d : ℕ) → Adapts (integer_tree b c) (integer_path c d) (integer_count c) 0
adapts_integer b zero d = record { small = λ w. refl; large = λ w. refl; entries = refl }
adapts_integer b (suc c) d = adapts_bits (suc c) (b + 8) d

adapts_fraction : (b : ℕ) (p : MvSubpelPrecision) (c d f : ℕ) → Adapts (fraction_tree b p c d) (fraction_path p f) (fraction_count p) 0
adapts_fraction b at.MV_SUBPEL_NONE c d f = record { small = λ w. refl; large = λ w. refl; entries = refl }
adapts_fraction b at.MV_SUBPEL_LOW_PRECISION zero d f = record { small = λ w. refl; large = λ w. refl; entries = refl }
adapts_fraction b at.MV_SUBPEL_LOW_PRECISION (suc c) d f = record { small = λ w. refl; large = λ w. refl; entries = refl }
adapts_fraction b at.MV_SUBPEL_HIGH_PRECISION zero d f = record { small = λ w. refl; large = λ w. refl; entries = refl }
adapts_fraction b at.MV_SUBPEL_HIGH_PRECISION (suc c) d f = record { small = λ w. refl; large = λ w. refl; entries = refl }

adapts_high : (b : ℕ) (p : MvSubpelPrecision) (c s : ℕ) → Adapts (high_tree b p c) (high_path p s) (high_count p) 0
adapts_high b at.MV_SUBPEL_NONE c s = record { small = λ w. refl; large = λ w. refl; entries = refl }
adapts_high b at.MV_SUBPEL_LOW_PRECISION c s = record { small = λ w. refl; large = λ w. refl; entries = refl }
adapts_high b at.MV_SUBPEL_HIGH_PRECISION zero s = record { small = λ w. refl; large = λ w. refl; entries = refl }
adapts_high b at.MV_SUBPEL_HIGH_PRECISION (suc c) s = record { small = λ w. refl; large = λ w. refl; entries = refl }

adapts_offset : (b : ℕ) (p : MvSubpelPrecision) (sign c o : ℕ) → o < class_width c → Fits p o → Adapts (offset_tree b p sign c) (offset_path p c o) (offset_count p c) 0
adapts_offset b p sign c o within fine =
    adapts_then (integer_tree b c) (λ d. and_then (fraction_tree b p c d) (last d)) (integer_path c (o / 8)) (fraction_path p ((o / 2) % 4) ++ high_path p (o % 2)) (o / 8)
    (integer_count c) 0 (fraction_count p + high_count p) 0 (leads_integer b c o within) (adapts_integer b c (o / 8))
    (adapts_then (fraction_tree b p c (o / 8)) (last (o / 8)) (fraction_path p ((o / 2) % 4)) (high_path p (o % 2)) ((o / 2) % 4)
    (fraction_count p) 0 (high_count p) 0 (leads_fraction b p c (o / 8) o fine) (adapts_fraction b p c (o / 8) ((o / 2) % 4))
    (adapts_by (high_tree b p c) (λ h. signed sign (class_base c + (8 * (o / 8) + 2 * ((o / 2) % 4) + h))) (high_path p (o % 2)) (high_count p) 0 (adapts_high b p c (o % 2))))
  where
    last : ℕ → ℕ → Syntax ℤ
    last d f = read_by (λ h. signed sign (class_base c + (8 * d + 2 * f + h))) (high_tree b p c)

adapts_component : (b : ℕ) (p : MvSubpelPrecision) (sign z : ℕ) → sign < 2 → Inside p z → Adapts (component_tree b p) (component_path p sign z) (1 + offset_count p (class_of z)) 1
adapts_component b p sign z below i =
    subst₂ (Adapts (component_tree b p) (component_path p sign z)) few many
    (adapts_then (one b 2) (λ s. and_then (one (b + 40) 11) (offset_tree b p s)) (sign ∷ []) (class_of z ∷ offset_path p (class_of z) (offset_of z)) sign 1 0 (0 + offset_count p (class_of z)) (1 + 0) (below, refl)
    (record { small = λ w. refl; large = λ w. refl; entries = refl })
    (adapts_then (one (b + 40) 11) (offset_tree b p sign) (class_of z ∷ []) (offset_path p (class_of z) (offset_of z)) (class_of z) 0 1 (offset_count p (class_of z)) 0 (i.class, refl)
    (record { small = λ w. refl; large = λ w. refl; entries = refl }) (adapts_offset b p sign (class_of z) (offset_of z) i.offset i.fine)))
  where
    few : 1 + (0 + offset_count p (class_of z)) ≡ 1 + offset_count p (class_of z)
    few = omega arith

    many : 0 + (1 + 0) ≡ 1
    many = refl

adapts_if : (b : ℕ) (p : MvSubpelPrecision) (d : ℤ) → Allowed p d → Adapts (component_if (present d) b p) (path_if p d) (component_count p (magnitude d)) (nonzero d)
adapts_if b p (pos zero) h = record { small = λ w. refl; large = λ w. refl; entries = refl }
adapts_if b p (pos (suc z)) h = adapts_component b p 0 z (omega arith) (inside p z (omega (arith, h.range)) (fits_less p z h.fine))
adapts_if b p (negsuc z) h = adapts_component b p 1 z (omega arith) (inside p z (omega (arith, h.range)) (fits_less p z h.fine))

-- a vector, once its joint names its components
abbrev joint : ℤ → ℤ → ℕ
joint row col = 2 * nonzero row + nonzero col

abbrev after_joint : MvSubpelPrecision → Bool → Bool → Syntax (ℤ × ℤ)
after_joint p a b = and_then (component_if a 318 p) (λ row. read_by (λ col. (row, col)) (component_if b 374 p))

component_leads_here : (b : ℕ) (p : MvSubpelPrecision) (d : ℤ) → Allowed p d → Leads (component_if (present d) b p) (path_if p d) d
component_leads_here b p d h = component_leads_if b p d h.range h.fine (present d) refl

vector_adapts : (p : MvSubpelPrecision) (row col : ℤ) → Allowed p row → Allowed p col → Adapts (vector_tree p) (vector_path p (row, col)) (vector_small p row col) (vector_large row col)
vector_adapts p row col h k =
    subst (Adapts (vector_tree p) (vector_path p (row, col)) (vector_small p row col)) all
    (adapts_then (one 302 4) (λ j. after_joint p (has_row j) (has_col j)) (joint row col ∷ []) (path_if p row ++ path_if p col) (joint row col)
    1 0 (component_count p (magnitude row) + component_count p (magnitude col)) (nonzero row + nonzero col) (joint_below row col, refl)
    (record { small = λ w. refl; large = λ w. refl; entries = refl })
    (subst₂ (λ a b. Adapts (after_joint p a b) (path_if p row ++ path_if p col) (component_count p (magnitude row) + component_count p (magnitude col)) (nonzero row + nonzero col))
    (sym (joint_row row col)) (sym (joint_col row col))
    (adapts_then (component_if (present row) 318 p) (λ r. read_by (λ c. (r, c)) (component_if (present col) 374 p)) (path_if p row) (path_if p col) row
    (component_count p (magnitude row)) (nonzero row) (component_count p (magnitude col)) (nonzero col) (component_leads_here 318 p row h) (adapts_if 318 p row h)
    (adapts_by (component_if (present col) 374 p) (λ c. (row, c)) (path_if p col) (component_count p (magnitude col)) (nonzero col) (adapts_if 374 p col k)))))
  where
    all : 0 + (nonzero row + nonzero col) ≡ nonzero row + nonzero col
    all = omega arith

pub vector_coded : (p : MvSubpelPrecision) (row col : ℤ) (m n k l : Moment) → Allowed p row → Allowed p col
    → Coded (one 302 4) (joint row col ∷ []) 1 0 m n
    → Coded (component_if (present row) 318 p) (path_if p row) (component_count p (magnitude row)) (nonzero row) n k
    → Coded (component_if (present col) 374 p) (path_if p col) (component_count p (magnitude col)) (nonzero col) k l
    → Coded (vector_tree p) (vector_path p (row, col)) (vector_small p row col) (0 + vector_large row col) m l
vector_coded p row col m n k l h i first next last =
    coded_then (one 302 4) (λ j. after_joint p (has_row j) (has_col j)) (joint row col ∷ []) (path_if p row ++ path_if p col) (joint row col)
    1 0 (component_count p (magnitude row) + component_count p (magnitude col)) (nonzero row + nonzero col) m n l (joint_below row col, refl) first
    (subst₂ (λ a b. Coded (after_joint p a b) (path_if p row ++ path_if p col) (component_count p (magnitude row) + component_count p (magnitude col)) (nonzero row + nonzero col) n l)
    (sym (joint_row row col)) (sym (joint_col row col))
    (coded_then (component_if (present row) 318 p) (λ r. read_by (λ c. (r, c)) (component_if (present col) 374 p)) (path_if p row) (path_if p col) row
    (component_count p (magnitude row)) (nonzero row) (component_count p (magnitude col)) (nonzero col) n k l (component_leads_here 318 p row h) next
    (coded_by (component_if (present col) 374 p) (λ c. (row, c)) (path_if p col) (component_count p (magnitude col)) (nonzero col) k l last)))

-- what is known of a vector once its components are split, fit the precision and are counted
pub record Taken (p : MvSubpelPrecision) (row col : ℤ) (high wide r c : ℕ) : Type 0 where
  pub row_fits : Allowed p row
  pub col_fits : Allowed p col
  pub rows : bool_byte (not (eqb high 0)) ≡ nonzero row
  pub cols : bool_byte (not (eqb wide 0)) ≡ nonzero col
  pub row_count : r ≡ component_count p (magnitude row)
  pub col_count : c ≡ component_count p (magnitude col)

nonzero_test : (d : ℤ) (m : ℕ) → m ≡ magnitude d → bool_byte (not (eqb m 0)) ≡ nonzero d
nonzero_test d m e = ap (λ n. bool_byte (not (eqb n 0))) e ∙ go d
  where
    go : (d : ℤ) → bool_byte (not (eqb (magnitude d) 0)) ≡ nonzero d
    go (pos zero) = refl
    go (pos (suc z)) = ap (λ b. bool_byte (not b)) (eqb-suc-zero z)
    go (negsuc z) = ap (λ b. bool_byte (not b)) (eqb-suc-zero z)

pub taken : (p : MvSubpelPrecision) (row col : ℤ) (a high b wide step r c : ℕ) → SplitAs row a high → SplitAs col b wide → step ≡ step_of p → high % step ≡ 0 → wide % step ≡ 0
    → r ≡ component_count p high → c ≡ component_count p wide → Taken p row col high wide r c
taken p row col a high b wide step r c first next size fine fine' count count' =
    let x = split_as row a high first in
    let y = split_as col b wide next in
    record {
      row_fits = record { range = x.0; fine = sym (ap₂ (λ m n. m % n) x.2 size) ∙ fine };
      col_fits = record { range = y.0; fine = sym (ap₂ (λ m n. m % n) y.2 size) ∙ fine' };
      rows = nonzero_test row high x.2;
      cols = nonzero_test col wide y.2;
      row_count = count ∙ ap (component_count p) x.2;
      col_count = count' ∙ ap (component_count p) y.2;
    }

-- the room that was asked for
pub room_asked : (p : MvSubpelPrecision) (row col : ℤ) (high wide r c room : ℕ) (m : Moment) → Taken p row col high wide r c → room ≡ m.rooms m.list
    → 1 + (r + c) + (bool_byte (not (eqb high 0)) + bool_byte (not (eqb wide 0))) ≤ room
    → LanesFit m.stage.journal (lanes m.log) (need (1 + (r + c)) (bool_byte (not (eqb high 0)) + bool_byte (not (eqb wide 0))) 0)
    → RoomFor (vector_small p row col) (vector_large row col) m
room_asked p row col high wide r c room m is same enough fit =
    record {
      entries = omega (arith, is.rows, is.cols, is.row_count, is.col_count);
      small = λ some. omega (arith, fit.small some, is.row_count, is.col_count);
      large = λ some. omega (arith, fit.large some, is.rows, is.cols);
    }

-- the questions of a vector
not_both : (a b : Bool) → (T a → T b → ⊥) → a && b ≡ false
not_both true true h = absurd (h tt tt)
not_both true false h = refl
not_both false b h = refl

none_over : (n : ℕ) → n ≡ 0 → T (eqb n 0)
none_over n h = subst (λ x. T (eqb x 0)) (sym h) tt

module _ (memory : ℕ) (room : List Entry → ℕ) (s : State) (j : Journal) (l : Lent stage) (es : List Entry) (p : MvSubpelPrecision) (row col : ℤ) where
  abbrev rest : Option Refusal
  rest = unless (leb (length (vector_path p (row, col))) (room es)) no.Room

  abbrev opened : Option Refusal
  opened = open_questions stage (world_at s j l es) (question.Vector p) (row, col) (marks_of j)

  pub refused_range : (magnitude row ≤ 16384 → magnitude col ≤ 16384 → ⊥) → (Err no.VectorRange, world_at s j l es) ≡ decision_step memory room (question.Vector p) (row, col) (world_at s j l es)
  refused_range h =
      refused_step memory room (question.Vector p) (row, col) (world_at s j l es) no.VectorRange
      (ap (λ b. or_else (or_else (or_else (unless b no.VectorRange) (unless (fits_precision p (row, col)) no.VectorPrecision)) rest) opened)
      (not_both (leb (magnitude row) 16384) (leb (magnitude col) 16384) (λ a b. h (leb→le (magnitude row) 16384 a) (leb→le (magnitude col) 16384 b))))

  inside_range : magnitude row ≤ 16384 → magnitude col ≤ 16384 → in_range (row, col) ≡ true
  inside_range h k =
      T→true (in_range (row, col)) (and_both (leb (magnitude row) 16384) (leb (magnitude col) 16384) (le→leb (magnitude row) 16384 h) (le→leb (magnitude col) 16384 k))

  pub refused_precision : magnitude row ≤ 16384 → magnitude col ≤ 16384 → (magnitude row % step_of p ≡ 0 → magnitude col % step_of p ≡ 0 → ⊥)
      → (Err no.VectorPrecision, world_at s j l es) ≡ decision_step memory room (question.Vector p) (row, col) (world_at s j l es)
  refused_precision h k coarse =
      refused_step memory room (question.Vector p) (row, col) (world_at s j l es) no.VectorPrecision
      (ap₂ (λ a b. or_else (or_else (or_else (unless a no.VectorRange) (unless b no.VectorPrecision)) rest) opened) (inside_range h k)
      (not_both (eqb (magnitude row % step_of p) 0) (eqb (magnitude col % step_of p) 0) (λ a b. coarse (eqb→eq (magnitude row % step_of p) 0 a) (eqb→eq (magnitude col % step_of p) 0 b))))

  -- of an allowed vector, those on the room and the lanes are left
  vector_asked : (r small large : ℕ) → Allowed p row → Allowed p col → r ≡ room es → small ≡ vector_small p row col → large ≡ vector_large row col
      → refusal stage memory room (world_at s j l es) (ask (question.Vector p) (row, col)) ≡ refused_by (record_asked j l r (small + large) (need small large 0))
  vector_asked r small large h k same few many =
      let a : Adapts (vector_tree p) (vector_path p (row, col)) (vector_small p row col) (vector_large row col) = vector_adapts p row col h k in
      ap₂ (λ a b. or_else (or_else (or_else (unless a no.VectorRange) (unless b no.VectorPrecision)) rest) opened) (inside_range h.range k.range) fine
      ∙ record_refusal s j l es (question.Vector p) (row, col) (room es) (small + large) small large 0 refl
      (a.entries ∙ ap₂ (λ x y. x + y) (sym few) (sym many)) (a.small s.words ∙ sym few) (a.large s.words ∙ sym many) refl
      ∙ ap (λ x. refused_by (record_asked j l x (small + large) (need small large 0))) (sym same)
    where
      fine : fits_precision p (row, col) ≡ true
      fine =
          T→true (fits_precision p (row, col))
          (and_both (eqb (magnitude row % step_of p) 0) (eqb (magnitude col % step_of p) 0) (none_over (magnitude row % step_of p) h.fine) (none_over (magnitude col % step_of p) k.fine))

  pub refused_record : (r small large : ℕ) (e : Refusal) → Allowed p row → Allowed p col → r ≡ room es → small ≡ vector_small p row col → large ≡ vector_large row col
      → Err e ≡ record_asked j l r (small + large) (need small large 0)
      → (Err e, world_at s j l es) ≡ decision_step memory room (question.Vector p) (row, col) (world_at s j l es)
  refused_record r small large e h k same few many refused =
      refused_step memory room (question.Vector p) (row, col) (world_at s j l es) e (vector_asked r small large h k same few many ∙ ap refused_by (sym refused))

  pub accepted : (r small large : ℕ) (u : Unit {0}) (v : World stage) → Allowed p row → Allowed p col → r ≡ room es → small ≡ vector_small p row col → large ≡ vector_large row col
      → Ok u ≡ record_asked j l r (small + large) (need small large 0)
      → v ≡ symbol_steps (vector_tree p) (vector_path p (row, col)) (world_at s j l es)
      → (Ok (small + large), v) ≡ decision_step memory room (question.Vector p) (row, col) (world_at s j l es)
  accepted r small large u v h k same few many recorded coded =
      accepted_step memory room (question.Vector p) (row, col) (world_at s j l es) v (small + large)
      (vector_asked r small large h k same few many ∙ ap refused_by (sym recorded)) counted coded
    where
      counted : length (sent stage s (question.Vector p) (row, col)).entries ≡ small + large
      counted =
          sym (length-map (sent stage s (question.Vector p) (row, col)).entries (λ (x : Entry). x.s))
          ∙ ap length (written_symbols (ℤ × ℤ) stage s.words (vector_tree p) (vector_path p (row, col)) (row, col)
          (vector_leads p (row, col)
          (and_both (leb (magnitude row) 16384) (leb (magnitude col) 16384) (le→leb (magnitude row) 16384 h.range) (le→leb (magnitude col) 16384 k.range))
          (and_both (eqb (magnitude row % step_of p) 0) (eqb (magnitude col % step_of p) 0) (none_over (magnitude row % step_of p) h.fine) (none_over (magnitude col % step_of p) k.fine))))
          ∙ (vector_adapts p row col h k).entries ∙ ap₂ (λ x y. x + y) (sym few) (sym many)
