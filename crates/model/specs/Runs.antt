-- A stage with trials, the book of standing calls and a reader, over any subject; and the laws over whole runs.
use Rattle.std.specs.Prelude.{◌≡◌, ℕ, suc, ◌+◌, ◌<◌, ◌≤◌, Bool, true, false, ◌&&◌, ◌≢◌, List, [], ◌∷◌, ◌++◌, map, length, take, drop, ◌==◌, nat_le, nat_lt, slice_index, slice_set}
use Rattle.std.proofs.Math.Option.{Option, none, some}
use Rattle.cdf.specs.declared.entry.Entry.{Entry}
use Rattle.journal.specs.declared.Mark.{Mark}
use Rattle.av1.specs.declared.refusal.Refusal.{Refusal}
use Rattle.av1.specs.declared.refusal.Refusal.TheVariants as no
use Rattle.cdf.specs.Lists.{Each}
use Rattle.cdf.specs.Words.{Words}
use Rattle.model.specs.Tree.{Leads, written, Written, read, read_as, faulty, Fault}
use Rattle.model.specs.Subject.{Subject, Trail}

-- a lane of lent memory, and how many of its records are in use
pub record Lane (R : Type 0) : Type 0 where
  pub memory : List R
  pub used : ℕ

abbrev pub in_use : {R : Type 0} → Lane R → List R
in_use l = take l.used l.memory

-- the records put behind those in use, one after the other
abbrev pub logged : {R : Type 0} → Lane R → List R → Lane R
logged l [] = l
logged l (r ∷ rs) = logged (record { memory = slice_set l.memory l.used r; used = suc l.used }) rs

abbrev pub back_to : {R : Type 0} → Lane R → ℕ → Lane R
back_to l n = record { memory = l.memory; used = n }

abbrev pub has_room : {R : Type 0} → Lane R → List R → Bool
has_room l rs = nat_le (l.used + length rs) (length l.memory)

-- newest first
abbrev pub unwound : {X R : Type 0} → (X → R → X) → X → List R → X
unwound put s [] = s
unwound put s (r ∷ rs) = put (unwound put s rs) r

pub record Stood (Q : Type 0) (D : Q → Type 0) : Type 0 where
  pub question : Q
  pub decision : D question

pub data Call (Q : Type 0) (D : Q → Type 0) : Type 0 where
  ask : (q : Q) → D q → Call Q D
  open_trial : Call Q D
  take_back : ℕ → Call Q D
  keep : ℕ → Call Q D

pub data Told (Q : Type 0) (D : Q → Type 0) : Type 0 where
  -- how many entries, and the call with its decision
  wrote : ℕ → Stood Q D → Told Q D
  -- a trial of this depth is opened
  opened : ℕ → Told Q D
  -- a trial is taken back or kept
  ended : Told Q D
  refused : Refusal → Told Q D

-- the book: standing calls, and a stack of numbers
pub record Book (Q : Type 0) (D : Q → Type 0) : Type 0 where
  pub standing : List (Stood Q D)
  pub numbers : List ℕ

abbrev pub cut_book : {A : Type 0} → List A → List ℕ → List A
cut_book xs [] = xs
cut_book xs (n ∷ ns) = take n xs

abbrev pub rest_of : {A : Type 0} → List A → List A
rest_of [] = []
rest_of (x ∷ xs) = xs

-- what a call does to the book, if it is not refused
abbrev pub entered : {Q : Type 0} {D : Q → Type 0} → Book Q D → Call Q D → Stood Q D → Book Q D
entered b (ask q given) x = record { standing = b.standing ++ x ∷ []; numbers = b.numbers }
entered b open_trial x = b
entered b (take_back k) x = b
entered b (keep k) x = b

abbrev pub pushed : {Q : Type 0} {D : Q → Type 0} → Book Q D → Call Q D → Book Q D
pushed b (ask q given) = b
pushed b open_trial = record { standing = b.standing; numbers = length b.standing ∷ b.numbers }
pushed b (take_back k) = b
pushed b (keep k) = b

abbrev pub cut : {Q : Type 0} {D : Q → Type 0} → Book Q D → Call Q D → Book Q D
cut b (ask q given) = b
cut b open_trial = b
cut b (take_back k) = record { standing = cut_book b.standing b.numbers; numbers = b.numbers }
cut b (keep k) = record { standing = b.standing; numbers = rest_of b.numbers }

abbrev pub noted : {Q : Type 0} {D : Q → Type 0} → Book Q D → Call Q D → Told Q D → Book Q D
noted b c (wrote n x) = entered b c x
noted b c (opened n) = pushed b c
noted b c ended = cut b c
noted b c (refused n) = b

-- the first no, over the questions in order
abbrev pub or_else : Option Refusal → Option Refusal → Option Refusal
or_else none b = b
or_else (some n) b = some n

abbrev pub unless : Bool → Refusal → Option Refusal
unless true n = none
unless false n = some n

abbrev pub innermost : ℕ → List Mark → Option Refusal
innermost k [] = some no.NotInnermost
innermost k (m ∷ ms) = unless (k == suc (length ms)) no.NotInnermost

abbrev pub holds_used : {R : Type 0} → Lane R → Bool
holds_used l = nat_le l.used (length l.memory)

-- every record, newest first, is put back and not passed over
abbrev pub Taken : {X R : Type 0} → (X → R → Bool) → (X → R → X) → X → List R → Type 0
Taken takes put s [] = Unit {0}
Taken takes put s (r ∷ rs) = (takes (unwound put s rs) r ≡ true) × Taken takes put s rs

-- why a reader stops: a question is answered by no, or a symbol is refused
pub data Stop : Type 0 where
  turned : Refusal → Stop
  fault : Fault → Stop

abbrev pub unused : {R : Type 0} → List R → Lane R
unused l = record { memory = l; used = 0 }

module _ (S : Subject) where
  -- what a run must leave alike
  pub record Core : Type 0 where
    pub state : S.State
    pub entries : List Entry

  abbrev pub TrailOf : Type 0
  TrailOf = Trail S.Small S.Large S.Spot

  abbrev pub Asking : Type 0
  Asking = Call S.Question S.Decision

  abbrev pub Standing : Type 0
  Standing = Stood S.Question S.Decision

  pub record World : Type 0 where
    pub core : Core
    pub small : Lane S.Small
    pub large : Lane S.Large
    pub spots : Lane S.Spot
    -- innermost first
    pub marks : List Mark

  abbrev pub sent : S.State → (q : S.Question) → S.Decision q → Written
  sent s q d = written (S.words s) (S.tree s q) (S.path s q d)

  -- the state after a decision, for writer and reader alike
  abbrev pub settle : S.State → (q : S.Question) → S.Decision q → Words → S.State
  settle s q d w = S.settled (S.with_words s w) q d

  abbrev pub next_state : S.State → Standing → S.State
  next_state s x = settle s x.question x.decision (sent s x.question x.decision).words

  abbrev pub worked : Core → Standing → Core
  worked c x = record { state = next_state c.state x; entries = c.entries ++ (sent c.state x.question x.decision).entries }

  abbrev pub trail_of : World → TrailOf
  trail_of w = record { small = in_use w.small; large = in_use w.large; spots = in_use w.spots }

  abbrev pub undone_state : S.State → TrailOf → S.State
  undone_state s t = unwound S.put_spot (unwound S.put_large (unwound S.put_small s t.small) t.large) t.spots

  abbrev pub above : TrailOf → Mark → TrailOf
  above t m = record { small = drop m.used.small t.small; large = drop m.used.large t.large; spots = drop m.used.spots t.spots }

  abbrev pub below : TrailOf → Mark → TrailOf
  below t m = record { small = take m.used.small t.small; large = take m.used.large t.large; spots = take m.used.spots t.spots }

  abbrev pub undone : Core → TrailOf → Mark → Core
  undone c t m = record { state = undone_state c.state (above t m); entries = take m.entries c.entries }

  abbrev pub moment : World → Mark
  moment w = record { used = record { small = w.small.used; large = w.large.used; spots = w.spots.used }; entries = length w.core.entries }

  abbrev pub lanes_asked : World → TrailOf → Option Refusal
  lanes_asked w t = unless (has_room w.small t.small && (has_room w.large t.large && has_room w.spots t.spots)) no.LogRoom

  abbrev pub open_questions : World → (q : S.Question) → S.Decision q → List Mark → Option Refusal
  open_questions w q d [] = none
  open_questions w q d (m ∷ ms) = or_else (S.asked_open q) (lanes_asked w (S.trail w.core.state q d))

  -- the questions of a decision, at this room of the sink, but for those on the map's memory and the lanes
  abbrev pub asked : S.State → ℕ → (q : S.Question) → S.Decision q → Option Refusal
  asked s room q d = or_else (S.placed s q) (or_else (S.allowed s q d) (unless (nat_le (length (S.path s q (S.decided s q d))) room) no.Room))

  -- the map's memory is long enough
  abbrev pub map_asked : ℕ → S.State → Option Refusal
  map_asked memory s = unless (nat_le (S.units s) memory) no.MapMemory

  abbrev pub map_asked_if : Bool → ℕ → S.State → Option Refusal
  map_asked_if true memory s = map_asked memory s
  map_asked_if false memory s = none

  abbrev pub lanes_hold : World → Option Refusal
  lanes_hold w = unless (holds_used w.small && (holds_used w.large && holds_used w.spots)) no.LogRoom

  abbrev pub fewer_asked : World → List Mark → Option Refusal
  fewer_asked w [] = none
  fewer_asked w (m ∷ ms) = unless (nat_le m.entries (length w.core.entries)) no.EntriesGone

  abbrev pub with_core : World → Core → World
  with_core w c = record { core = c; small = w.small; large = w.large; spots = w.spots; marks = w.marks }

  abbrev pub with_logged : World → TrailOf → World
  with_logged w t =
      record { core = w.core; small = logged w.small t.small; large = logged w.large t.large; spots = logged w.spots t.spots; marks = w.marks }

  abbrev pub log_open : World → TrailOf → List Mark → World
  log_open w t [] = w
  log_open w t (m ∷ ms) = with_logged w t

  abbrev pub at_mark : World → List Mark → World
  at_mark w [] = w
  at_mark w (m ∷ ms) =
      record {
        core = undone w.core (trail_of w) m;
        small = back_to w.small m.used.small;
        large = back_to w.large m.used.large;
        spots = back_to w.spots m.used.spots;
        marks = m ∷ ms;
      }

  abbrev pub kept_marks : World → List Mark → World
  kept_marks w [] = w
  kept_marks w (m ∷ []) = record { core = w.core; small = back_to w.small 0; large = back_to w.large 0; spots = back_to w.spots 0; marks = [] }
  kept_marks w (m ∷ n ∷ ms) = record { core = w.core; small = w.small; large = w.large; spots = w.spots; marks = n ∷ ms }

  -- the world after a call that is not refused, and what the call tells
  abbrev pub done_call : World → Asking → World
  done_call w (ask q given) =
      let d : S.Decision q = S.decided w.core.state q given in
      with_core (log_open w (S.trail w.core.state q d) w.marks) (worked w.core (record { question = q; decision = d }))
  done_call w open_trial = record { core = w.core; small = w.small; large = w.large; spots = w.spots; marks = moment w ∷ w.marks }
  done_call w (take_back k) = at_mark w w.marks
  done_call w (keep k) = kept_marks w w.marks

  abbrev pub told : World → Asking → Told S.Question S.Decision
  told w (ask q given) =
      let d : S.Decision q = S.decided w.core.state q given in
      wrote (length (sent w.core.state q d).entries) (record { question = q; decision = d })
  told w open_trial = opened (suc (length w.marks))
  told w (take_back k) = ended
  told w (keep k) = ended

  pub record Stepped : Type 0 where
    pub world : World
    pub answer : Told S.Question S.Decision

  abbrev pub answered : World → Asking → Option Refusal → Stepped
  answered w c none = record { world = done_call w c; answer = told w c }
  answered w c (some n) = record { world = w; answer = refused n }

  pub record Ran : Type 0 where
    pub world : World
    pub book : Book S.Question S.Decision

  -- a sink has a room for each list, and the map's memory has a length
  module _ (memory : ℕ) (room : List Entry → ℕ) where
    abbrev pub refusal : World → Asking → Option Refusal
    refusal w (ask q d) =
        or_else (map_asked_if (S.brings_map q) memory w.core.state)
        (or_else (asked w.core.state (room w.core.entries) q d)
        (open_questions w q (S.decided w.core.state q d) w.marks))
    refusal w open_trial = unless (nat_lt (length w.marks) 16) no.TooManyTrials
    refusal w (take_back k) =
        or_else (map_asked memory w.core.state) (or_else (lanes_hold w) (or_else (innermost k w.marks) (fewer_asked w w.marks)))
    refusal w (keep k) = innermost k w.marks

    abbrev pub step : World → Asking → Stepped
    step w c = answered w c (refusal w c)

    abbrev pub run : World → Book S.Question S.Decision → List Asking → Ran
    run w b [] = record { world = w; book = b }
    run w b (c ∷ cs) = run (step w c).world (noted b c (step w c).answer) cs

  abbrev pub empty_book : Book S.Question S.Decision
  empty_book = record { standing = []; numbers = [] }

  pub record Lent : Type 0 where
    pub small : List S.Small
    pub large : List S.Large
    pub spots : List S.Spot

  abbrev pub fresh : S.State → Lent → World
  fresh s l =
      record {
        core = record { state = s; entries = [] };
        small = unused l.small;
        large = unused l.large;
        spots = unused l.spots;
        marks = [];
      }

  abbrev pub as_call : Standing → Asking
  as_call x = ask x.question x.decision

  -- every call of the list is accepted
  abbrev pub Accepted : ℕ → (List Entry → ℕ) → World → List Asking → Type 0
  Accepted memory room w [] = Unit {0}
  Accepted memory room w (c ∷ cs) = (refusal memory room w c ≡ none) × Accepted memory room (step memory room w c).world cs

  -- a refused call leaves the world and the book as they were, and a call is refused exactly where the questions say no
  abbrev pub RefusedAlike : Type 0
  RefusedAlike =
      (memory : ℕ) (room : List Entry → ℕ) (w : World) (b : Book S.Question S.Decision) (c : Asking) (n : Refusal)
      → (((step memory room w c).answer ≡ refused n) → (refusal memory room w c ≡ some n) × ((step memory room w c).world ≡ w) × (noted b c (step memory room w c).answer ≡ b))
      × (refusal memory room w c ≡ some n → (step memory room w c).answer ≡ refused n)

  -- no trace: trials leave what the standing calls alone leave, and those are all accepted, with other lanes and other memory for the map
  abbrev pub NoTrace : Type 0
  NoTrace =
      (memory memory' : ℕ) (room : List Entry → ℕ) (start : S.State) (lent lent' : Lent) (calls : List Asking) → S.Sound start → S.units start ≤ memory'
      → let after : Ran = run memory room (fresh start lent) empty_book calls in
      let alone : List Asking = map as_call after.book.standing in
      Accepted memory' room (fresh start lent') alone × ((run memory' room (fresh start lent') empty_book alone).world.core ≡ after.world.core)

  -- what a reader read, its state then, the entries that are left and the place of the first of them
  pub data Reading : Type 0 where
    all_read : List Standing → S.State → List Entry → ℕ → Reading
    stopped : List Standing → S.State → List Entry → ℕ → Stop → Reading

  abbrev pub with_first : Standing → Reading → Reading
  with_first x (all_read xs s es p) = all_read (x ∷ xs) s es p
  with_first x (stopped xs s es p n) = stopped (x ∷ xs) s es p n

  -- the questions of a read
  abbrev pub read_asked : ℕ → S.State → S.Question → Option Refusal
  read_asked memory s q = or_else (map_asked_if (S.brings_map q) memory s) (S.placed s q)

  -- a reader, put these questions
  module _ (memory : ℕ) where
    abbrev pub reads : S.State → List S.Question → List Entry → ℕ → Reading
    reads s [] es p = all_read [] s es p
    reads s (q ∷ qs) es p =
        elim (read_asked memory s q) [
          | some n ↦ stopped [] s es p (turned n)
          | none ↦ elim (read (S.words s) (S.tree s q) p 0 p es) [
            | read_as d w rest p' ↦ with_first (record { question = q; decision = d }) (reads (settle s q d w) qs rest p')
            | faulty f ↦ stopped [] s es p (fault f)
          ]
        ]

  abbrev pub question_of : Standing → S.Question
  question_of x = x.question

  -- the record, read with the standing questions from the start, gives the standing decisions and the same state, and nothing is left
  abbrev pub ReadsRecord : Type 0
  ReadsRecord =
      (memory memory' : ℕ) (room : List Entry → ℕ) (start : S.State) (lent : Lent) (calls : List Asking) → S.Sound start → S.units start ≤ memory'
      → let after : Ran = run memory room (fresh start lent) empty_book calls in
      reads memory' start (map question_of after.book.standing) after.world.core.entries 0
      ≡ all_read after.book.standing after.world.core.state [] (length after.world.core.entries)

  abbrev pub symbol : Entry → ℕ
  symbol e = e.s

  -- two runs whose standing calls first differ in the answer to one question differ in a symbol
  abbrev pub TellsRunsApart : Type 0
  TellsRunsApart =
      (memory memory' : ℕ) (room room' : List Entry → ℕ) (start : S.State) (lent lent' : Lent) (calls calls' : List Asking) (same : List Standing)
      (q : S.Question) (d e : S.Decision q) (more more' : List Standing)
      → S.Sound start
      → (run memory room (fresh start lent) empty_book calls).book.standing ≡ same ++ (record { question = q; decision = d }) ∷ more
      → (run memory' room' (fresh start lent') empty_book calls').book.standing ≡ same ++ (record { question = q; decision = e }) ∷ more'
      → d ≢ e
      → let one : List ℕ = map symbol (run memory room (fresh start lent) empty_book calls).world.core.entries in
      let two : List ℕ = map symbol (run memory' room' (fresh start lent') empty_book calls').world.core.entries in
      (i : ℕ) × (i < length one) × (i < length two) × (slice_index one i ≢ slice_index two i)

  -- the windows of a trail, lane after lane
  abbrev pub AllTaken : S.State → TrailOf → Type 0
  AllTaken s t = Taken S.takes_small S.put_small s t.small × Taken S.takes_large S.put_large (unwound S.put_small s t.small) t.large

  -- whatever was called before, taking back the innermost trial passes over no window
  abbrev pub NonePassed : Type 0
  NonePassed =
      (memory : ℕ) (room : List Entry → ℕ) (start : S.State) (lent : Lent) (calls : List Asking) (m : Mark) (ms : List Mark) → S.Sound start
      → let w : World = (run memory room (fresh start lent) empty_book calls).world in
      w.marks ≡ m ∷ ms → AllTaken w.core.state (above (trail_of w) m)

  -- what a subject has to show
  pub record Laws : Type 0 where
    pub leads : (s : S.State) (r : ℕ) (q : S.Question) (d : S.Decision q) → S.Sound s → asked s r q d ≡ none
        → Leads (S.tree s q) (S.path s q (S.decided s q d)) (S.decided s q d)
    pub decided_again : (s : S.State) (q : S.Question) (d : S.Decision q) → S.decided s q (S.decided s q d) ≡ S.decided s q d
    pub allowed_again : (s : S.State) (q : S.Question) (d : S.Decision q) → S.Sound s → S.allowed s q d ≡ none → S.allowed s q (S.decided s q d) ≡ none
    pub sound_next : (s : S.State) (r : ℕ) (x : Standing) → S.Sound s → asked s r x.question x.decision ≡ none → S.decided s x.question x.decision ≡ x.decision → S.Sound (next_state s x)
    pub units_next : (s : S.State) (x : Standing) → S.units (next_state s x) ≡ S.units s
    -- the undo records of a call, put back newest first, give the state before it
    pub restores : (s : S.State) (r : ℕ) (x : Standing) → S.Sound s → asked s r x.question x.decision ≡ none → S.decided s x.question x.decision ≡ x.decision
        → undone_state (next_state s x) (S.trail s x.question x.decision) ≡ s
    -- a call's records lie in their lane's own part of the words
    pub in_small : (s : S.State) (r : ℕ) (x : Standing) → S.Sound s → asked s r x.question x.decision ≡ none → S.decided s x.question x.decision ≡ x.decision
        → Each S.InSmall (S.trail s x.question x.decision).small
    pub in_large : (s : S.State) (r : ℕ) (x : Standing) → S.Sound s → asked s r x.question x.decision ≡ none → S.decided s x.question x.decision ≡ x.decision
        → Each S.InLarge (S.trail s x.question x.decision).large
    -- any record put back keeps a state sound, and records of two lanes have nothing in common
    pub small_sound : (s : S.State) (a : S.Small) → S.Sound s → S.Sound (S.put_small s a)
    pub large_sound : (s : S.State) (b : S.Large) → S.Sound s → S.Sound (S.put_large s b)
    pub spot_sound : (s : S.State) (c : S.Spot) → S.Sound s → S.Sound (S.put_spot s c)
    pub small_large : (s : S.State) (a : S.Small) (b : S.Large) → S.Sound s → S.InSmall a → S.InLarge b
        → S.put_large (S.put_small s a) b ≡ S.put_small (S.put_large s b) a
    pub small_spot : (s : S.State) (a : S.Small) (b : S.Spot) → S.put_spot (S.put_small s a) b ≡ S.put_small (S.put_spot s b) a
    pub large_spot : (s : S.State) (a : S.Large) (b : S.Spot) → S.put_spot (S.put_large s a) b ≡ S.put_large (S.put_spot s b) a
    -- a call's own windows are put back, and what one lane puts back does not matter to the other
    pub taken : (s : S.State) (r : ℕ) (x : Standing) → S.Sound s → asked s r x.question x.decision ≡ none → S.decided s x.question x.decision ≡ x.decision
        → AllTaken (next_state s x) (S.trail s x.question x.decision)
    pub takes_small_large : (s : S.State) (a : S.Small) (b : S.Large) → S.Sound s → S.InSmall a → S.InLarge b → S.takes_small (S.put_large s b) a ≡ S.takes_small s a
    pub takes_large_small : (s : S.State) (a : S.Small) (b : S.Large) → S.Sound s → S.InSmall a → S.InLarge b → S.takes_large (S.put_small s a) b ≡ S.takes_large s b
    pub takes_small_spot : (s : S.State) (a : S.Small) (c : S.Spot) → S.takes_small (S.put_spot s c) a ≡ S.takes_small s a
    pub takes_large_spot : (s : S.State) (b : S.Large) (c : S.Spot) → S.takes_large (S.put_spot s c) b ≡ S.takes_large s b
