-- A call by its single steps, and the public calls as functions of the world.
use Rattle.std.specs.Prelude.{◌≡◌, ℕ, suc, Bool, true, List, [], ◌∷◌, ◌++◌, length, Ok, Err, Result}
use Rattle.std.proofs.Math.Option.{Option, none, some}
use Rattle.cdf.specs.declared.entry.Entry.{Entry}
use Rattle.journal.specs.declared.Window.{Window}
use Rattle.journal.specs.declared.Spot.{Spot}
use Rattle.av1.specs.declared.size.BlockSize.{BlockSize}
use Rattle.model.specs.declared.Question.{Question}
use Rattle.model.specs.declared.Question.TheVariants as of
use Rattle.av1.specs.declared.refusal.Refusal.{Refusal}
use Rattle.cdf.specs.Words.{Words}
use Rattle.model.specs.Coders.{Coder, whole, edge, entry_of, after}
use Rattle.model.specs.Tree.{Syntax, done, never, coded, and_then, Leads, written}
use Rattle.journal.specs.declared.Mark.{Mark}
use Rattle.model.specs.Runs.{Lane, logged, ask, open_trial, take_back, keep, World, sent, refusal, done_call, step}
use Rattle.model.specs.Decisions.{State, Decision, stage, with_words, window_at, add_if, is_small, is_large, put_spot, old_spot, tree, path, decided, spots}

-- what is logged while a trial is open
abbrev pub log_if : {R : Type 0} → List Mark → Lane R → List R → Lane R
log_if [] l rs = l
log_if (m ∷ ms) l rs = logged l rs

-- the window that a symbol logs
abbrev pub window_log : (n : ℕ) → (ℕ → Bool) → Coder → Words → List (Window n)
window_log n taken (whole t) w = add_if (taken t.count) (window_at n w t.first) []
window_log n taken (edge t ss) w = []

abbrev pub small_log : Coder → Words → List (Window 4)
small_log k w = window_log 4 is_small k w

abbrev pub large_log : Coder → Words → List (Window 16)
large_log k w = window_log 16 is_large k w

-- one symbol: its window is logged, its entry joins the record, and its table adapts
abbrev pub symbol_step : Coder → ℕ → World stage → World stage
symbol_step k s w =
    let ws : Words = w.core.state.words in
    record {
      core = record { state = with_words w.core.state (after ws k s); entries = w.core.entries ++ entry_of ws k s ∷ [] };
      small = log_if w.marks w.small (small_log k ws);
      large = log_if w.marks w.large (large_log k ws);
      spots = w.spots;
      marks = w.marks;
    }

-- the symbols of a path, one after the other
abbrev pub symbol_steps : {D : Type 0} → Syntax D → List ℕ → World stage → World stage
symbol_steps (done d) p w = w
symbol_steps (never n) p w = w
symbol_steps (coded k f) [] w = w
symbol_steps (coded k f) (s ∷ p) w = symbol_steps (f s) p (symbol_step k s w)

-- one cell or context byte: what it was is logged, and it is set
abbrev pub spot_step : Spot → World stage → World stage
spot_step p w =
    record {
      core = record { state = put_spot w.core.state p; entries = w.core.entries };
      small = w.small;
      large = w.large;
      spots = log_if w.marks w.spots (old_spot w.core.state p ∷ []);
      marks = w.marks;
    }

abbrev pub spot_steps : List Spot → World stage → World stage
spot_steps [] w = w
spot_steps (p ∷ ps) w = spot_steps ps (spot_step p w)

-- a decision that is not refused is its symbols and then its spots
abbrev pub BySteps : Type 0
BySteps =
    (w : World stage) (q : Question) (given : Decision q)
    → let s : State = w.core.state in
    let d : Decision q = decided s q given in
    done_call stage w (ask q given)
    ≡ spot_steps (spots (with_words s (written s.words (tree s q) (path s q d)).words) q d) (symbol_steps (tree s q) (path s q d) w)

-- the symbols of one syntax and then of another
abbrev pub StepsThen : (A B : Type 0) → Type 0
StepsThen A B =
    (t : Syntax A) (g : A → Syntax B) (p q : List ℕ) (a : A) (w : World stage) → Leads t p a
    → symbol_steps (and_then t g) (p ++ q) w ≡ symbol_steps (g a) q (symbol_steps t p w)

-- whatever number is given for a skipped segment
abbrev pub SkippedAlike : Type 0
SkippedAlike =
    (memory : ℕ) (room : List Entry → ℕ) (w : World stage) (x y : ℕ) (z : BlockSize) (i j : ℕ)
    → step stage memory room w (ask (of.Segment x y z true) i) ≡ step stage memory room w (ask (of.Segment x y z true) j)

-- the public calls: what each answers, and the world after it
abbrev pub answer_by : {A : Type 0} → Option Refusal → A → Result A Refusal
answer_by none a = Ok a
answer_by (some n) a = Err n

module _ (memory : ℕ) (room : List Entry → ℕ) where
  -- a partition, a skip flag, alphas or a vector: how many entries
  unfoldable pub decision_step : (q : Question) → Decision q → World stage → Result ℕ Refusal × World stage
  decision_step q d w = (
    answer_by (refusal stage memory room w (ask q d)) (length (sent stage w.core.state q (decided w.core.state q d)).entries),
    (step stage memory room w (ask q d)).world,
  )

  -- a segment: how many entries, and its number
  unfoldable pub segment_step : ℕ → ℕ → BlockSize → Bool → ℕ → World stage → Result (ℕ × ℕ) Refusal × World stage
  segment_step x y z skip id w =
      let q : Question = of.Segment x y z skip in (
        answer_by (refusal stage memory room w (ask q id))
            (length (sent stage w.core.state q (decided w.core.state q id)).entries, decided w.core.state (of.Segment x y z skip) id),
        (step stage memory room w (ask q id)).world,
      )

  -- a context update or a row start
  unfoldable pub update_step : ℕ → ℕ → BlockSize → BlockSize → World stage → Result (Unit {0}) Refusal × World stage
  update_step x y z sub w = (answer_by (refusal stage memory room w (ask (of.ContextUpdate x y z sub) tt)) tt, (step stage memory room w (ask (of.ContextUpdate x y z sub) tt)).world)

  unfoldable pub row_step : World stage → Result (Unit {0}) Refusal × World stage
  row_step w = (answer_by (refusal stage memory room w (ask of.RowStart tt)) tt, (step stage memory room w (ask of.RowStart tt)).world)

  -- a trial's opening answers its depth
  unfoldable pub open_step : World stage → Result ℕ Refusal × World stage
  open_step w = (answer_by (refusal stage memory room w open_trial) (suc (length w.marks)), (step stage memory room w open_trial).world)

  unfoldable pub back_step : ℕ → World stage → Result (Unit {0}) Refusal × World stage
  back_step depth w = (answer_by (refusal stage memory room w (take_back depth)) tt, (step stage memory room w (take_back depth)).world)

  unfoldable pub keep_step : ℕ → World stage → Result (Unit {0}) Refusal × World stage
  keep_step depth w = (answer_by (refusal stage memory room w (keep depth)) tt, (step stage memory room w (keep depth)).world)
