-- Taking back in the stage is the model's: the walks over the lanes, and the world after them.
use Rattle.std.proofs.Common.{◌≡◌, ℕ, ◌-◌, ◌<◌, Bool, true, false, cond, not, ◌&&◌, ◌||◌, eqb, ltb, leb, List, [], ◌∷◌, length, reverse, get_or, take, set, Ok, Err, sym, refl, ap, ◌∙◌, ap₂, arith}
use mathlib.Core.Option.{none, some}
use Rattle.std.proofs.lemmas.List.{length-reverse, length-set}
use Rattle.std.proofs.lemmas.Bool.{ne_eqb}
use Rattle.av1.specs.declared.refusal.Refusal.{Refusal}
use Rattle.av1.specs.declared.refusal.Refusal.TheVariants as no
use Rattle.av1.specs.declared.tile.Cell.{Cell}
use Rattle.cdf.specs.declared.entry.Entry.{Entry}
use Rattle.cdf.specs.declared.tables.Tables.{Tables}
use Rattle.journal.specs.declared.Mark.{Mark}
use Rattle.journal.specs.declared.Spot.{Spot}
use Rattle.journal.specs.declared.Spot.TheVariants as spot
use Rattle.journal.specs.declared.Window.{Window}
use Rattle.journal.specs.Spots.{Area, area, put_area, put_below}
use Rattle.journal.specs.Walks.{undone, visited}
use Rattle.journal.specs.Windows.{put_tables}
use Rattle.model.specs.Calls.{back_step}
use Rattle.model.specs.Decisions.{State, stage, units, with_words, put_back, put_spot}
use Rattle.model.specs.Runs.{World, Lent, take_back, refusal, or_else, unless, unwound, innermost, fewer_asked, at_mark}
use Rattle.stage.specs.declared.state.Journal.{Journal}
use Rattle.stage.specs.Questions.{back_asked, innermost_mark}
use Rattle.stage.specs.View.{lane, marks_of, no_mark, open_trials, world_at, refused_by}
use Rattle.stage.proofs.Trials.{marks_first, by_refusal}

-- a walk over windows: the words of the tables, and the state that has them
pub windows_walk : {n : ℕ} (rs : List (Window n)) (s : State) (t : Tables) → s.words ≡ t.words → with_words s (undone put_tables rs t).words ≡ unwound put_back s rs
windows_walk [] s t h = ap (with_words s) (sym h)
windows_walk (r ∷ rs) s t h = ap (λ z. put_back z r) (windows_walk rs s t h)

-- a state with other contexts and cells
abbrev pub with_area : State → Area → State
with_area s a = record { columns = s.columns; rows = s.rows; last = s.last; words = s.words; above = a.above; left = a.left; cells = a.cells }

abbrev pub area_in : State → Area
area_in s = record { above = s.above; left = s.left; cells = s.cells }

length_below : {A : Type 0} (b : Bool) (i : ℕ) (a : A) (l : List A) → length (cond b (set l i a) l) ≡ length l
length_below true i a l = length-set l i a
length_below false i a l = refl

area_long : (rs : List Spot) (a : Area) → length (undone put_area rs a).cells ≡ length a.cells
area_long [] a = refl
area_long (spot.Cell i c ∷ rs) a =
    let b : Area = undone put_area rs a in
    length_below (ltb i (length b.cells)) i c b.cells ∙ area_long rs a
area_long (spot.Above i b ∷ rs) a = area_long rs a
area_long (spot.Left i b ∷ rs) a = area_long rs a

pub above_long : (rs : List Spot) (a : Area) → length (undone put_area rs a).above ≡ length a.above
above_long [] a = refl
above_long (spot.Cell i c ∷ rs) a = above_long rs a
above_long (spot.Above i b ∷ rs) a = length_below (ltb i 512) i b (undone put_area rs a).above ∙ above_long rs a
above_long (spot.Left i b ∷ rs) a = above_long rs a

pub left_long : (rs : List Spot) (a : Area) → length (undone put_area rs a).left ≡ length a.left
left_long [] a = refl
left_long (spot.Cell i c ∷ rs) a = left_long rs a
left_long (spot.Above i b ∷ rs) a = left_long rs a
left_long (spot.Left i b ∷ rs) a = length_below (ltb i 8) i b (undone put_area rs a).left ∙ left_long rs a

-- a walk over spots
pub spots_walk : (rs : List Spot) (s : State) → length s.cells ≡ units s → with_area s (undone put_area rs (area_in s)) ≡ unwound put_spot s rs
spots_walk [] s h = refl
spots_walk (spot.Cell i c ∷ rs) s h =
    let a : Area = undone put_area rs (area_in s) in
    ap (λ n. with_area s (record { above = a.above; left = a.left; cells = put_below n i c a.cells })) (area_long rs (area_in s) ∙ h)
    ∙ ap (λ z. put_spot z (spot.Cell i c)) (spots_walk rs s h)
spots_walk (spot.Above i b ∷ rs) s h = ap (λ z. put_spot z (spot.Above i b)) (spots_walk rs s h)
spots_walk (spot.Left i b ∷ rs) s h = ap (λ z. put_spot z (spot.Left i b)) (spots_walk rs s h)

-- the state after the walks over the three lanes, from what each of them leaves
pub walked_state : (s : State) (smalls : List (Window 4)) (larges : List (Window 16)) (spots : List Spot) (t one two : Tables) (above left : List ℕ) (part cells after : List Cell)
    → one ≡ undone put_tables smalls t → two ≡ undone put_tables larges one
    → area above left cells ≡ undone put_area spots (area s.above s.left part) → part ≡ s.cells → after ≡ cells
    → record { columns = s.columns; rows = s.rows; last = s.last; words = two.words; above = above; left = left; cells = after }
    ≡ with_area (with_words s (undone put_tables larges (undone put_tables smalls t)).words) (undone put_area spots (area_in s))
walked_state s smalls larges spots t one two above left part cells after first second third own all =
    λ i. record {
      columns = s.columns;
      rows = s.rows;
      last = s.last;
      words = ((second ∙ ap (undone put_tables larges) first) i).words;
      above = (put i).above;
      left = (put i).left;
      cells = (all ∙ (λ k. (put k).cells)) i;
    }
  where
    put : area above left cells ≡ undone put_area spots (area_in s)
    put = third ∙ ap (λ (x : List Cell). undone put_area spots (area s.above s.left x)) own

module _ (memory : ℕ) (room : List Entry → ℕ) (s : State) (j : Journal) (l : Lent stage) (es : List Entry) where
  abbrev here : World stage
  here = world_at s j l es

  -- the questions of taking back
  back_refusal : (depth : ℕ) → refusal stage memory room here (take_back depth) ≡ refused_by (back_asked (units s) memory j l (length es) depth)
  back_refusal depth =
      ap (λ o. or_else (unless mapped no.MapMemory) (or_else (unless held no.LogRoom) o)) inner
      ∙ go mapped held (eqb (open_trials j) 0 || not (eqb depth (open_trials j))) (leb (innermost_mark j).entries (length es))
    where
      mapped : Bool
      mapped = leb (units s) memory

      held : Bool
      held = leb j.used.small (length l.small) && (leb j.used.large (length l.large) && leb j.used.spots (length l.spots))

      turn : (a b : Bool) → or_else (unless a no.NotInnermost) (unless b no.EntriesGone) ≡ cond (not a) (some no.NotInnermost) (unless b no.EntriesGone)
      turn true b = refl
      turn false b = refl

      -- by the marks, the innermost first
      inside : (n : ℕ) (ms : List Mark) → length ms ≡ n → ((m : Mark) (ks : List Mark) → ms ≡ m ∷ ks → m ≡ innermost_mark j)
          → or_else (innermost depth ms) (fewer_asked stage here ms) ≡ cond (eqb n 0 || not (eqb depth n)) (some no.NotInnermost) (unless (leb (innermost_mark j).entries (length es)) no.EntriesGone)
      inside n [] e first = ap (λ k. cond (eqb k 0 || not (eqb depth k)) (some no.NotInnermost) (unless (leb (innermost_mark j).entries (length es)) no.EntriesGone)) e
      inside n (m ∷ ms) e first =
          turn (eqb depth (length (m ∷ ms))) (leb m.entries (length es))
          ∙ ap₂ (λ b (k : Mark). cond (b || not (eqb depth (length (m ∷ ms)))) (some no.NotInnermost) (unless (leb k.entries (length es)) no.EntriesGone))
          (sym (ne_eqb (length (m ∷ ms)) 0 (λ z. omega arith))) (first m ms refl)
          ∙ ap (λ k. cond (eqb k 0 || not (eqb depth k)) (some no.NotInnermost) (unless (leb (innermost_mark j).entries (length es)) no.EntriesGone)) e

      head : (m : Mark) (ks : List Mark) → marks_of j ≡ m ∷ ks → m ≡ innermost_mark j
      head m ks e =
          let some : 0 < open_trials j = omega (arith, length-reverse j.marks.items, ap length e) in
          ap (λ ms. get_or ms 0 no_mark) (sym e ∙ marks_first j.marks.items some)

      inner : or_else (innermost depth (marks_of j)) (fewer_asked stage here (marks_of j))
          ≡ cond (eqb (open_trials j) 0 || not (eqb depth (open_trials j))) (some no.NotInnermost) (unless (leb (innermost_mark j).entries (length es)) no.EntriesGone)
      inner = inside (open_trials j) (marks_of j) (length-reverse j.marks.items) head

      go : (a b c d : Bool) → or_else (unless a no.MapMemory) (or_else (unless b no.LogRoom) (cond c (some no.NotInnermost) (unless d no.EntriesGone)))
          ≡ refused_by (cond a (cond b (cond c (Err no.NotInnermost) (cond d (Ok (innermost_mark j)) (Err no.EntriesGone))) (Err no.LogRoom)) (Err no.MapMemory))
      go true true true d = refl
      go true true false true = refl
      go true true false false = refl
      go true false c d = refl
      go false b c d = refl

  pub back_refused : (depth n : ℕ) (e : Refusal) → n ≡ length es → Err e ≡ back_asked (units s) memory j l n depth → (Err e, here) ≡ back_step memory room depth here
  unfolding back_step
  back_refused depth n e count h =
      by_refusal tt here (take_back depth) (refusal stage memory room here (take_back depth)) (some e)
      (back_refusal depth ∙ ap (λ k. refused_by (back_asked (units s) memory j l k depth)) (sym count) ∙ ap refused_by (sym h))

  -- the world once the lanes were walked and the sink was cut
  pub back_accepted : (depth n : ℕ) (m : Mark) (t : Tables) (s' : State) (es' : List Entry) → n ≡ length es → Ok m ≡ back_asked (units s) memory j l n depth
      → 0 < open_trials j → m ≡ innermost_mark j → length s.cells ≡ units s → s.words ≡ t.words
      → s' ≡ with_area
      (with_words s (undone put_tables (visited m.used.large j.used.large l.large) (undone put_tables (visited m.used.small j.used.small l.small) t)).words)
      (undone put_area (visited m.used.spots j.used.spots l.spots) (area_in s))
      → es' ≡ take m.entries es
      → (Ok tt, world_at s' (record { marks = j.marks; used = m.used }) l es') ≡ back_step memory room depth here
  unfolding back_step
  back_accepted depth n m t s' es' count h some_open mark long words state cut =
      ap (λ w. (Ok tt, w)) (taken ∙ ap (at_mark stage here) (sym marks))
      ∙ by_refusal tt here (take_back depth) (refusal stage memory room here (take_back depth)) none
      (back_refusal depth ∙ ap (λ k. refused_by (back_asked (units s) memory j l k depth)) (sym count) ∙ ap refused_by (sym h))
    where
      marks : marks_of j ≡ m ∷ reverse (take (open_trials j - 1) j.marks.items)
      marks = marks_first j.marks.items some_open ∙ ap (λ k. k ∷ reverse (take (open_trials j - 1) j.marks.items)) (sym mark)

      smalls : List (Window 4)
      smalls = visited m.used.small j.used.small l.small

      larges : List (Window 16)
      larges = visited m.used.large j.used.large l.large

      spots : List Spot
      spots = visited m.used.spots j.used.spots l.spots

      first : State
      first = with_words s (undone put_tables smalls t).words

      both : with_words s (undone put_tables larges (undone put_tables smalls t)).words ≡ unwound put_back (unwound put_back s smalls) larges
      both = windows_walk larges first (undone put_tables smalls t) refl ∙ ap (λ z. unwound put_back z larges) (windows_walk smalls s t words)

      walked : s' ≡ unwound put_spot (unwound put_back (unwound put_back s smalls) larges) spots
      walked = state ∙ spots_walk spots (with_words s (undone put_tables larges (undone put_tables smalls t)).words) long ∙ ap (λ z. unwound put_spot z spots) both

      taken : ◌≡◌ {A = World stage} (world_at s' (record { marks = j.marks; used = m.used }) l es')
          (at_mark stage here (m ∷ reverse (take (open_trials j - 1) j.marks.items)))
      taken = λ i. record {
        core = record { state = walked i; entries = cut i };
        small = lane l.small m.used.small;
        large = lane l.large m.used.large;
        spots = lane l.spots m.used.spots;
        marks = marks i;
      }
