-- The depth of a trial that is held, and 0, which no trial has, where none is.
use Rattle.std.specs.Prelude.{ℕ, Some, None, Option}
use Rattle.stage.specs.declared.state.Trial.{Trial}

abbrev pub depth_held : Option Trial → ℕ
depth_held None = 0
depth_held (Some t) = t.depth
