-- A symbol in the stage: its window is logged, its entry joins the record, and its table adapts.
use Rattle.std.proofs.Common.{◌≡◌, ℕ, ◌+◌, ◌<◌, ◌≤◌, Bool, true, false, not, cond, ◌&&◌, ltb, leb, List, [], ◌∷◌, ◌++◌, length, reverse, replicate, sym, refl, ap, ◌∙◌, ap₂, arith, le→leb, lt→ltb, leb→le}
use Rattle.std.proofs.lemmas.List.{length-reverse}
use Rattle.arrayvec.specs.ArrayVec.{ArrayVec}
use Rattle.cdf.specs.declared.entry.Entry.{Entry}
use Rattle.cdf.specs.Entries.{is_entry}
use Rattle.cdf.specs.Layout.{in_layout, words_in_all}
use Rattle.cdf.specs.Words.{Words, Table, table, updated}
use Rattle.cdf.proofs.Booleans.{true→T, T→true, not-T→false}
use Rattle.cdf.proofs.Regions.{PlaceOf, table_place, inside_small, inside_large}
use Rattle.journal.specs.declared.Mark.{Mark}
use Rattle.model.specs.Calls.{log_if, small_log, large_log}
use Rattle.model.specs.Coders.{whole}
use Rattle.model.specs.Decisions.{window_at, add_if}
use Rattle.model.specs.Runs.{Lane, logged}
use Rattle.record.specs.Sinks.{put_list}
use Rattle.stage.specs.declared.state.Journal.{Journal}
use Rattle.stage.specs.Lanes.{OnlySpots}
use Rattle.stage.specs.View.{marks_of, open_trials}

-- no mark is open
pub none_open : (j : Journal) → open_trials j ≡ 0 → marks_of j ≡ []
none_open j e = ap reverse (length_zero j.marks.items e)
  where
    length_zero : (ms : List Mark) → length ms ≡ 0 → ms ≡ []
    length_zero [] h = refl
    length_zero (m ∷ ms) h = absurd (omega arith)

-- spots are logged beside the same marks
pub same_marks : (j k : Journal) → OnlySpots j k → marks_of j ≡ marks_of k
same_marks j k h = ap (λ (v : ArrayVec Mark). reverse v.items) h.marks

pub same_trials : (j k : Journal) → OnlySpots j k → open_trials j ≡ open_trials k
same_trials j k h = ap (λ (v : ArrayVec Mark). length v.items) h.marks

pub still_few : (j k : Journal) → OnlySpots j k → open_trials k ≤ 16 → open_trials j ≤ 16
still_few j k h few = omega (arith, same_trials j k h, few)

pub only_spots_then : (i j k : Journal) → OnlySpots i j → OnlySpots j k → OnlySpots i k
only_spots_then i j k a b = record { marks = a.marks ∙ b.marks; small = a.small ∙ b.small; large = a.large ∙ b.large }

-- a table's window lies in the words
pub small_inside : (first n : ℕ) → in_layout (table first n) ≡ true → n ≤ 4 → first + 4 ≤ words_in_all
small_inside first n h l = go (leb n 4) (T→true (leb n 4) (le→leb n 4 l)) (table_place (table first n) h)
  where
    go : (b : Bool) → b ≡ true → PlaceOf b (table first n) → first + 4 ≤ words_in_all
    go true e p = leb→le (first + 4) words_in_all (true→T _ (inside_small first (replicate 4 0) p (omega arith)))
    go false e p = absurd (true→T false e)

pub large_inside : (first n : ℕ) → in_layout (table first n) ≡ true → 4 < n → first + 16 ≤ words_in_all
large_inside first n h l = go (leb n 4) (not-T→false (leb n 4) (λ t. let k : n ≤ 4 = leb→le n 4 t in omega arith)) (table_place (table first n) h)
  where
    go : (b : Bool) → b ≡ false → PlaceOf b (table first n) → first + 16 ≤ words_in_all
    go true e p = absurd (true→T false (sym e))
    go false e p = leb→le (first + 16) words_in_all (true→T _ (inside_large first (replicate 16 0) p.0 (omega arith)))

pub log_open : {R : Type 0} (j : Journal) (l : Lane R) (rs : List R) → 0 < open_trials j → logged l rs ≡ log_if (marks_of j) l rs
log_open {R} j l rs h = go (marks_of j) (omega (arith, length-reverse j.marks.items))
  where
    go : (ms : List Mark) → 0 < length ms → logged l rs ≡ log_if ms l rs
    go [] e = absurd (omega arith)
    go (m ∷ ms) e = refl

-- the lane that a table's window goes to
pub small_window : (w : Words) (first n : ℕ) → n ≤ 4 → small_log (whole (table first n)) w ≡ window_at 4 w first ∷ []
small_window w first n h = ap (λ b. add_if b (window_at 4 w first) []) (T→true (leb n 4) (le→leb n 4 h))

pub no_small_window : (w : Words) (first n : ℕ) → 4 < n → small_log (whole (table first n)) w ≡ []
no_small_window w first n h = ap (λ b. add_if b (window_at 4 w first) []) (not-T→false (leb n 4) (λ t. let k : n ≤ 4 = leb→le n 4 t in omega arith))

pub large_window : (w : Words) (first n : ℕ) → 4 < n → large_log (whole (table first n)) w ≡ window_at 16 w first ∷ []
large_window w first n h = ap (λ b. add_if (not b) (window_at 16 w first) []) (not-T→false (leb n 4) (λ t. let k : n ≤ 4 = leb→le n 4 t in omega arith))

pub no_large_window : (w : Words) (first n : ℕ) → n ≤ 4 → large_log (whole (table first n)) w ≡ []
no_large_window w first n h = ap (λ b. add_if (not b) (window_at 16 w first) []) (T→true (leb n 4) (le→leb n 4 h))

pub log_none : {R : Type 0} (j : Journal) (l : Lane R) (rs : List R) → rs ≡ [] → l ≡ log_if (marks_of j) l rs
log_none {R} j l rs e = none (marks_of j) ∙ sym (ap (λ z. log_if (marks_of j) l z) e)
  where
    none : (ms : List Mark) → l ≡ log_if ms l []
    none [] = refl
    none (m ∷ ms) = refl

-- the words and the entry of a symbol that the table has
pub symbol_words : (w v : Words) (t : Table) (s : ℕ) → in_layout t ≡ true → s < t.count → v ≡ cond (in_layout t && ltb s t.count) (updated w t s) w → v ≡ updated w t s
symbol_words w v t s h l e = e ∙ ap₂ (λ a b. cond (a && b) (updated w t s) w) h (T→true (ltb s t.count) (lt→ltb s t.count l))

pub put_lawful : (e : Entry) (room : ℕ) (l m : List Entry) → is_entry e ≡ true → 0 < room → m ≡ put_list e room l → m ≡ l ++ e ∷ []
put_lawful e room l m h some same = same ∙ ap₂ (λ a b. cond a (cond b (l ++ e ∷ []) l) l) h (T→true (ltb 0 room) (lt→ltb 0 room some))
