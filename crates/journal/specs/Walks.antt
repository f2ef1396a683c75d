-- A walk over undo records, and what it restores.
use Rattle.std.specs.Prelude.{◌≡◌, ℕ, List, [], ◌∷◌, take, drop}

-- the records of a lane that a walk visits: those from one number to before another, as far as the lane goes
abbrev pub visited : {R : Type 0} → ℕ → ℕ → List R → List R
visited from upto lane = drop from (take upto lane)

-- the last record of the list is the newest, and is put back first
abbrev pub undone : {R S : Type 0} → (R → S → S) → List R → S → S
undone put [] s = s
undone put (r ∷ rs) s = put r (undone put rs s)

-- the records of the changes that led from s to u, the oldest first: each holds what stood at its spot before its change, which changed nothing but that spot
abbrev pub Logged : {R S : Type 0} → (R → S → Type 0) → (R → S → S → Type 0) → List R → S → S → Type 0
Logged holds apart [] s u = s ≡ u
Logged {R} {S} holds apart (r ∷ rs) s u = (t : S) × holds r s × apart r s t × Logged holds apart rs t u

-- a put-back restores its own spot, and no other
pub record Restoring {R S : Type 0} (put : R → S → S) (holds : R → S → Type 0) (apart : R → S → S → Type 0) : Type 0 where
  pub restores : (r : R) (s t : S) → holds r s → apart r s t → put r t ≡ s
  pub only : (r : R) (s : S) → apart r s (put r s)
