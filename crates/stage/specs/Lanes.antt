-- What is kept while records are logged.
use Rattle.std.specs.Prelude.{◌≡◌, length}
use Rattle.journal.specs.declared.Log.{Log}
use Rattle.stage.specs.declared.state.Journal.{Journal}

-- the lanes are the same memory, and as long as before
pub record SameMemory (l m : Log) : Type 0 where
  pub small : l.small.ghost_name ≡ m.small.ghost_name
  pub large : l.large.ghost_name ≡ m.large.ghost_name
  pub spots : l.spots.ghost_name ≡ m.spots.ghost_name
  pub small_long : length l.small.now ≡ length m.small.now
  pub large_long : length l.large.now ≡ length m.large.now
  pub spots_long : length l.spots.now ≡ length m.spots.now

-- a journal differs from another in its count of spots at most
pub record OnlySpots (j k : Journal) : Type 0 where
  pub marks : j.marks ≡ k.marks
  pub small : j.used.small ≡ k.used.small
  pub large : j.used.large ≡ k.used.large
