-- A window put back into the tables restores the words that it holds, and no others.
use Rattle.std.specs.Prelude.{◌≡◌, ℕ, ◌+◌, ◌≤◌, List, ◌++◌, length, take, drop, refl}
use Rattle.std.proofs.Common.{sym, ap, ap₂, ◌∙◌, arith}
use Rattle.std.proofs.lemmas.Bool.{and_from, cond-true, cond_both, le-leb}
use Rattle.std.proofs.lemmas.List.Edits.{sets}
use Rattle.cdf.specs.declared.tables.Tables.{Tables}
use Rattle.cdf.specs.Layout.{lawful, words_in_all, SoundWords}
use Rattle.cdf.specs.Windows.{window, taken_window, put_window}
use Rattle.cdf.proofs.Regions.{put_sound}
use Rattle.cdf.proofs.SameWords.{same_words}
use Rattle.cdf.proofs.Stores.{sets_before, sets_behind, sets_own, sets_splice}
use Rattle.journal.specs.declared.Window.{Window}
use Rattle.journal.specs.Walks.{Restoring}

abbrev pub sound_tables : (t : Tables) → SoundWords t.words
sound_tables t = record { number = t.long; fits = t.fits }

-- the tables with a window put back, or else passed over
abbrev pub put_tables : {n : ℕ} → Window n → Tables → Tables
put_tables r t =
    record {
      words = put_window r.first r.words t.words;
      long = (put_sound r.first r.words t.words (sound_tables t)).number;
      fits = (put_sound r.first r.words t.words (sound_tables t)).fits;
    }

-- the window holds what the tables have there
pub record HoldsWindow {n : ℕ} (r : Window n) (t : Tables) : Type 0 where
  pub inside : r.first + length r.words ≤ words_in_all
  pub same : window (length r.words) t.words r.first ≡ r.words

-- the two differ in the window at most
pub record ApartWindow {n : ℕ} (r : Window n) (t u : Tables) : Type 0 where
  pub front : take r.first u.words ≡ take r.first t.words
  pub behind : drop (r.first + length r.words) u.words ≡ drop (r.first + length r.words) t.words

window_back : {n : ℕ} (r : Window n) (t u : Tables) → HoldsWindow r t → ApartWindow r t u → sets u.words r.first r.words ≡ t.words
window_back r t u h a =
    let in_u : r.first + length r.words ≤ length u.words = omega (arith, h.inside, u.long) in
    let in_t : r.first + length r.words ≤ length t.words = omega (arith, h.inside, t.long) in
    sets_splice u.words r.words r.first in_u
    ∙ ap₂ (λ (x y : List ℕ). x ++ (r.words ++ y)) a.front a.behind
    ∙ sym (sets_splice t.words r.words r.first in_t)
    ∙ ap (sets t.words r.first) (sym h.same)
    ∙ sets_own (length r.words) t.words r.first

window_restores : {n : ℕ} (r : Window n) (t u : Tables) → HoldsWindow r t → ApartWindow r t u → put_tables r u ≡ t
window_restores r t u h a =
    let back : sets u.words r.first r.words ≡ t.words = window_back r t u h a in
    same_words (put_tables r u) t
    (cond-true (taken_window r.first r.words u.words) (sets u.words r.first r.words) u.words (and_from _ _ (le-leb _ _ h.inside) (ap lawful back ∙ t.fits)) ∙ back)

window_only : {n : ℕ} (r : Window n) (t : Tables) → ApartWindow r t (put_tables r t)
window_only r t =
    let end = r.first + length r.words in
    let either = cond_both (taken_window r.first r.words t.words) (sets t.words r.first r.words) t.words in
    record {
      front = either (λ ws. take r.first ws ≡ take r.first t.words) (λ e. sets_behind r.words t.words 0 r.first r.first (omega arith)) (λ e. refl);
      behind = either (λ ws. drop end ws ≡ drop end t.words) (λ e. sets_before r.words t.words r.first end (omega arith)) (λ e. refl);
    }

pub window_laws : {n : ℕ} → Restoring {R = Window n} put_tables HoldsWindow ApartWindow
window_laws = record { restores = window_restores; only = window_only }
