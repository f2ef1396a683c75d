-- Walks over the tables and over the places, seen in plain lists.
use Rattle.std.proofs.Common.{◌≡◌, ℕ, List, sym, refl}
use Rattle.cdf.specs.declared.tables.Tables.{Tables}
use Rattle.cdf.specs.Windows.{put_window}
use Rattle.cdf.specs.Words.{Words}
use Rattle.journal.specs.declared.Spot.{Spot}
use Rattle.journal.specs.declared.Window.{Window}
use Rattle.journal.specs.declared.spots.Places.{Places}
use Rattle.journal.specs.Spots.{area_of, with_area, put_area, put_places}
use Rattle.journal.specs.Walks.{undone}
use Rattle.journal.specs.Windows.{put_tables}
use Rattle.journal.proofs.Walking.{undone_through}

-- the words of the tables after a walk over windows
pub words_walk : {n : ℕ} (rs : List (Window n)) (t : Tables) → (undone put_tables rs t).words ≡ undone (λ (r : Window n) (w : Words). put_window r.first r.words w) rs t.words
words_walk {n} rs t = undone_through put_tables (λ (r : Window n) (w : Words). put_window r.first r.words w) (λ (u : Tables). u.words) (λ r u. refl) rs t

-- the places after a walk over spots: the same, with another area in them
pub places_walk : (rs : List Spot) (p : Places) → undone put_places rs p ≡ with_area p (undone put_area rs (area_of p))
places_walk rs p = sym (undone_through put_area put_places (with_area p) (λ r a. refl) rs (area_of p))
