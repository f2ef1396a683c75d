use Rattle.std.proofs.Common.{refl}
use Rattle.cdf.specs.Layout.{lawful, tables, small_tables, large_tables, fillers}
use Rattle.cdf.specs.Start.{start_words}
use Rattle.cdf.proofs.start.start_words.Goals as goal

pub returns : goal.returns
unfolding start_words lawful tables small_tables large_tables fillers
returns c = record { words = refl; lawful = refl }
