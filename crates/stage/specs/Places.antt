-- A change at each place of a list, one after the other.
use Rattle.std.specs.Prelude.{ℕ, List, [], ◌∷◌}

abbrev pub at_each : {A : Type 0} → (ℕ → A → A) → List ℕ → A → A
at_each f [] a = a
at_each f (i ∷ is) a = at_each f is (f i a)
