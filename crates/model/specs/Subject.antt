-- What a subject of decisions gives: its state, its questions, its syntax, and its undo records.
use Rattle.std.specs.Prelude.{ℕ, Bool, List}
use Rattle.std.proofs.Math.Option.{Option}
use Rattle.av1.specs.declared.refusal.Refusal.{Refusal}
use Rattle.cdf.specs.Words.{Words}
use Rattle.model.specs.Tree.{Syntax}

-- undo records of the three lanes, oldest first
pub record Trail (A B C : Type 0) : Type 0 where
  pub small : List A
  pub large : List B
  pub spots : List C

pub record Subject : Type 1 where
  -- tables, contexts and map
  pub State : Type 0
  -- what each call keeps of a state
  pub Sound : State → Type 0
  pub Question : Type 0
  -- what answers a question
  pub Decision : Question → Type 0
  pub Small : Type 0
  pub Large : Type 0
  pub Spot : Type 0
  pub words : State → Words
  pub with_words : State → Words → State
  -- how many cells the map has, and whether a question brings the map
  pub units : State → ℕ
  pub brings_map : Question → Bool
  -- the syntax, and the symbols that the writer sends
  pub tree : State → (q : Question) → Syntax (Decision q)
  pub path : State → (q : Question) → Decision q → List ℕ
  -- what is set in map and contexts once the decision is known
  pub settled : State → (q : Question) → Decision q → State
  -- the decision itself, where the call does not carry it
  pub decided : State → (q : Question) → Decision q → Decision q
  -- the first question that is answered by no, of those on size and position
  pub placed : State → Question → Option Refusal
  -- of those on the decision
  pub allowed : State → (q : Question) → Decision q → Option Refusal
  -- and of those asked with a trial open only
  pub asked_open : Question → Option Refusal
  -- the undo records, and how each is put back
  pub trail : State → (q : Question) → Decision q → Trail Small Large Spot
  pub put_small : State → Small → State
  pub put_large : State → Large → State
  pub put_spot : State → Spot → State
  -- a window is put back, and not passed over
  pub takes_small : State → Small → Bool
  pub takes_large : State → Large → Bool
  -- a record of a lane lies in the lane's own part of the words
  pub InSmall : Small → Type 0
  pub InLarge : Large → Type 0
