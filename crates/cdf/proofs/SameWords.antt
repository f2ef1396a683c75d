-- Tables with the same words are the same: what they are sure of has one proof at most.
use Rattle.std.proofs.Common.{◌≡◌, true, length}
use mathlib.Core.Bool.{Bool-set}
use mathlib.Core.HLevel.{is_prop→PathP}
use native.Mathlib.Nat.{ℕ_set}
use Rattle.cdf.specs.declared.tables.Tables.{Tables}
use Rattle.cdf.specs.Layout.{lawful, SoundWords}

pub same_words : (t u : Tables) → t.words ≡ u.words → t ≡ u
same_words t u e =
    λ i. record {
      words = e i;
      long = is_prop→PathP (λ j. length (e j) ≡ 430) (λ j. ℕ_set (length (e j)) 430) t.long u.long i;
      fits = is_prop→PathP (λ j. lawful (e j) ≡ true) (λ j. Bool-set (lawful (e j)) true) t.fits u.fits i;
    }

-- the words of tables are sound
pub sound_of : (t : Tables) → SoundWords t.words
sound_of t = record { number = t.long; fits = t.fits }
