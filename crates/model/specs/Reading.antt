-- A read as a function of the state and of the place in the source, and a list of reads made by it.
use Rattle.std.specs.Prelude.{◌≡◌, ℕ, List, [], ◌∷◌, drop, Ok, Err, Result}
use Rattle.std.proofs.Math.Option.{none, some}
use Rattle.cdf.specs.declared.entry.Entry.{Entry}
use Rattle.model.specs.declared.Question.{Question}
use Rattle.model.specs.Tree.{Answer, read, read_as, faulty}
use Rattle.model.specs.Runs.{Reading, Stop, all_read, fault, read_asked, reads, settle, stopped, turned, with_first}
use Rattle.model.specs.Decisions.{State, Decision, stage, tree}

-- what a read answers, the state after it and the place then: a read that is refused leaves both as they were
abbrev pub read_told : (q : Question) → State → ℕ → Answer (Decision q) → Result (Decision q) Stop × State × ℕ
read_told q s p (read_as d w rest next) = (Ok d, settle stage s q d w, next)
read_told q s p (faulty f) = (Err (fault f), s, p)

-- the map has so many cells, and the source these entries in all
module _ (memory : ℕ) (es : List Entry) where
  -- a question read in a state, from a place of the source on
  unfoldable pub read_step : (q : Question) → State → ℕ → Result (Decision q) Stop × State × ℕ
  read_step q s p =
      elim (read_asked stage memory s q) [
        | some n ↦ (Err (turned n), s, p)
        | none ↦ read_told q s p (read s.words (tree s q) p 0 p (drop p es))
      ]

  -- a read, and those after it; the first that is refused stops them
  abbrev pub read_on : (q : Question) → Result (Decision q) Stop × State × ℕ → (State → ℕ → Reading stage) → Reading stage
  read_on q (Ok d, s, p) more = with_first stage (record { question = q; decision = d }) (more s p)
  read_on q (Err n, s, p) more = stopped [] s (drop p es) p n

  abbrev pub read_each : List Question → State → ℕ → Reading stage
  read_each [] s p = all_read [] s (drop p es) p
  read_each (q ∷ qs) s p = read_on q (read_step q s p) (λ t r. read_each qs t r)

-- questions read one after the other, each by a read of its own, are a reader that was put them all
abbrev pub ReadsByStep : Type 0
ReadsByStep = (memory : ℕ) (es : List Entry) (qs : List Question) (s : State) (p : ℕ) → reads stage memory s qs (drop p es) p ≡ read_each memory es qs s p
