-- The worked examples hold, and a start is sound.
use Rattle.std.proofs.Common.{◌*◌, ◌&&◌, T, leb, refl, leb→le}
use Rattle.std.proofs.lemmas.List.{length-replicate}
use Rattle.av1.specs.declared.refusal.Refusal.TheVariants as no
use Rattle.av1.specs.Sides.{side}
use Rattle.av1.specs.Tiles.{no_cell}
use Rattle.av1.specs.Vectors.{class_of}
use Rattle.cdf.proofs.Booleans.{and_first, and_second, T→true}
use Rattle.cdf.specs.Layout.{SoundWords, fillers, large_tables, lawful, small_tables, tables}
use Rattle.cdf.specs.Start.{start_words}
use Rattle.model.proofs.Standing.{or_else_first, or_else_second, unless_true}
use Rattle.model.specs.Runs.{unless}
use Rattle.model.specs.Worked.{StartsSound, Worked, start}

-- The worked examples hold, and a start is sound.
pub works : Worked
unfolding start start_words class_of
works = (refl, refl, refl, refl, refl, refl, refl, refl, refl, refl, refl, refl)

words_sound : SoundWords start_words
unfolding start_words lawful tables small_tables large_tables fillers
words_sound = record { number = refl; fits = refl }

pub starts_sound : StartsSound
unfolding start
starts_sound columns rows last memory ok =
    let sides : T (side columns && side rows) = unless_true (side columns && side rows) no.TileSize (or_else_first _ _ ok) in
    record {
      wide = T→true (side columns) (and_first (side columns) (side rows) sides);
      high = T→true (side rows) (and_second (side columns) (side rows) sides);
      ends = leb→le last 7 (unless_true (leb last 7) no.LastSegment (or_else_first _ _ (or_else_second (unless (side columns && side rows) no.TileSize) _ ok)));
      tables = words_sound;
      over = refl;
      beside = refl;
      mapped = length-replicate (columns * rows) no_cell;
    }
