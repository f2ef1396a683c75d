-- What a start refuses, and the world that it makes.
use Rattle.std.proofs.Common.{◌≡◌, ℕ, ◌*◌, Bool, true, false, cond, ◌&&◌, leb, List, [], reverse, take, drop, replicate, Ok, Err, Result, ap, ◌∙◌, ap₂}
use mathlib.Core.Option.{Option, some}
use Rattle.std.proofs.lemmas.List.{length-replicate, take_at}
use Rattle.av1.specs.declared.refusal.Refusal.{Refusal}
use Rattle.av1.specs.declared.refusal.Refusal.TheVariants as no
use Rattle.av1.specs.declared.tile.Cell.{Cell}
use Rattle.av1.specs.Sides.{side}
use Rattle.av1.specs.Tiles.{no_cell, sides_asked}
use Rattle.cdf.specs.Start.{start_words}
use Rattle.journal.specs.declared.Counts.{Counts}
use Rattle.journal.specs.declared.Mark.{Mark}
use Rattle.model.specs.Decisions.{stage, start_asked}
use Rattle.model.specs.Runs.{World, Lent, fresh, or_else, unless}
use Rattle.model.specs.Worked.{start}
use Rattle.stage.specs.Questions.{need}
use Rattle.stage.specs.View.{lane, cleared}

pub sides_refused : (columns rows last memory : ℕ) (e : Refusal) → Err e ≡ sides_asked columns rows → some e ≡ start_asked columns rows last memory
sides_refused columns rows last memory e h = go (side columns && side rows) h
  where
    rest : Option Refusal
    rest = or_else (unless (leb last 7) no.LastSegment) (unless (leb (columns * rows) memory) no.MapMemory)

    go : (b : Bool) → ◌≡◌ {A = Result (Unit {0}) Refusal} (Err e) (cond b (Ok tt) (Err no.TileSize)) → some e ≡ or_else (unless b no.TileSize) rest
    go true k = cc
    go false k = cc

-- the world of a stage whose parts are as at the start
pub started : (columns rows last cols high : ℕ) (words above left : List ℕ) (ms : List Mark) (used : Counts) (memory cells : List Cell) (l : Lent stage)
    → cols ≡ columns → high ≡ rows → words ≡ start_words → above ≡ replicate 512 0 → left ≡ replicate 8 0
    → ms ≡ [] → used ≡ need 0 0 0 → cells ≡ cleared (cols * high) memory
    → ◌≡◌ {A = World stage}
    (record {
      core = record { state = record { columns = cols; rows = high; last = last; words = words; above = above; left = left; cells = take (cols * high) cells }; entries = [] };
      small = lane l.small used.small;
      large = lane l.large used.large;
      spots = lane l.spots used.spots;
      marks = reverse ms;
    })
    (fresh stage (start columns rows last) l)
unfolding start
started columns rows last cols high words above left ms used memory cells l p q a b c d e h =
    λ i. record {
      core = record { state = record { columns = p i; rows = q i; last = last; words = a i; above = b i; left = c i; cells = all i }; entries = [] };
      small = lane l.small (e i).small;
      large = lane l.large (e i).large;
      spots = lane l.spots (e i).spots;
      marks = reverse (d i);
    }
  where
    all : take (cols * high) cells ≡ replicate (columns * rows) no_cell
    all =
        ap (take (cols * high)) h
        ∙ take_at (replicate (cols * high) no_cell) (drop (cols * high) memory) (cols * high) (length-replicate (cols * high) no_cell)
        ∙ ap₂ (λ m n. replicate (m * n) no_cell) p q
