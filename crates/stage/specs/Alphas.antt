-- A chroma alpha by its context and its symbol; a zero has none.
use Rattle.std.specs.Prelude.{ℕ, ◌+◌, ◌*◌, Some, None, Option}
use Rattle.cdf.specs.Words.{table}
use Rattle.model.specs.Calls.{symbol_step}
use Rattle.model.specs.Coders.{whole}
use Rattle.model.specs.Decisions.{stage}
use Rattle.model.specs.Runs.{World}

-- how many symbols
abbrev pub scale_count : Option (ℕ × ℕ) → ℕ
scale_count None = 0
scale_count (Some s) = 1

abbrev pub scale_step : Option (ℕ × ℕ) → World stage → World stage
scale_step None w = w
scale_step (Some s) w = symbol_step (whole (table (206 + 16 * s.0) 16)) s.1 w
