-- Questions read one after the other: what is left of them gives what all of them give; and a record read back.
use Rattle.std.proofs.Common.{◌≡◌, ℕ, ◌+◌, ◌*◌, ◌<◌, ◌≤◌, leb, leb→le, Bool, true, false, cond, List, [], ◌∷◌, ◌++◌, map, length, get_or, take, drop, set, Ok, Err, Some, None, Option, Result, IfOk, sym, refl, ap, ap₂, ◌∙◌, subst, arith}
use Rattle.std.specs.Result.{MatchResult, IsOkAnd, result_map_both}
use Rattle.std.proofs.lemmas.List.{drop_all, at_drop_more, take_more_set, map-append}
use Rattle.cdf.specs.Lists.{Each}
use Rattle.cdf.specs.declared.entry.Entry.{Entry}
use Rattle.av1.specs.declared.call.Call.{Call}
use Rattle.av1.specs.declared.call.Call.TheVariants as call
use Rattle.av1.specs.declared.size.BlockSize.{BlockSize}
use Rattle.av1.specs.declared.tile.Cell.{Cell}
use Rattle.av1.specs.declared.tile.TileBlockOffset.{TileBlockOffset}
use Rattle.model.specs.declared.Question.{Question}
use Rattle.model.specs.declared.Question.TheVariants as question
use mathlib.Core.Option.{none}
use Rattle.av1.specs.declared.refusal.Refusal.TheVariants as no
use Rattle.model.specs.Decisions.{State, Sound, Decision, stage, start_asked, units}
use Rattle.model.specs.Worked.{start}
use Rattle.model.specs.Reading.{read_on, read_step}
use Rattle.model.specs.Reading as by_step
use Rattle.model.specs.Runs as model
use Rattle.model.specs.Runs.{Reading, Stop, World, all_read, stopped, with_first, reads, run, fresh, empty_book, question_of}
use Rattle.model.proofs.Staged.{stage_reads_record}
use Rattle.model.proofs.Trails.{each_append}
use Rattle.model.proofs.Standing.{or_else_second, unless_true}
use Rattle.replay.specs.declared.book.Standing.{Standing}
use Rattle.replay.specs.declared.read.ReadRun.{ReadRun}
use Rattle.replay.specs.declared.write.ReplayError.{ReplayError}
use Rattle.replay.specs.Books.{standing_calls, Stands}
use Rattle.replay.specs.Calls.{Answered, asking}
use Rattle.replay.specs.Reads.{call_read, call_seen, left_by, reading_of, state_read, stood_of, with_question, ReadsBackTo}
use Rattle.replay.specs.Runs.{ran, standing, Outcome}
use Rattle.replay.proofs.Calls.{mapped}
use Rattle.replay.proofs.Traces.{ran_world, standing_is}
use Rattle.stage.specs.declared.reader.fault.ReadError.{ReadError}
use Rattle.stage.specs.Faults.{seen_by, stop_of}

abbrev pub with_firsts : List (model.Standing stage) → Reading stage → Reading stage
with_firsts [] r = r
with_firsts (x ∷ xs) r = with_first stage x (with_firsts xs r)

one_first : (xs : List (model.Standing stage)) (x : model.Standing stage) (r : Reading stage) → with_firsts (xs ++ x ∷ []) r ≡ with_firsts xs (with_first stage x r)
one_first [] x r = refl
one_first (y ∷ xs) x r = ap (with_first stage y) (one_first xs x r)

all_firsts : (xs : List (model.Standing stage)) (s : State) (es : List Entry) (p : ℕ) → with_firsts xs (all_read [] s es p) ≡ all_read xs s es p
all_firsts [] s es p = refl
all_firsts (x ∷ xs) s es p = ap (with_first stage x) (all_firsts xs s es p)

stopped_firsts : (xs : List (model.Standing stage)) (s : State) (es : List Entry) (p : ℕ) (n : Stop) → with_firsts xs (stopped [] s es p n) ≡ stopped xs s es p n
stopped_firsts [] s es p n = refl
stopped_firsts (x ∷ xs) s es p n = ap (with_first stage x) (stopped_firsts xs s es p n)

-- a read that is answered, and one that is refused
module _ (memory : ℕ) (es : List Entry) (q : Question) (more : State → ℕ → Reading stage) where
  answered_on : (r : Result (Decision q) Stop × State × ℕ) (x : model.Standing stage) (s : State) (p : ℕ)
      → ◌≡◌ {A = Result (model.Standing stage) Stop × State × ℕ} (Ok x, s, p) (with_question q r) → read_on memory es q r more ≡ with_first stage x (more s p)
  answered_on (Ok d, t, k) x s p h =
      ap (λ (v : Result (model.Standing stage) Stop × State × ℕ). go v.0 (more v.1 v.2)) (sym h)
    where
      go : Result (model.Standing stage) Stop → Reading stage → Reading stage
      go (Ok y) r = with_first stage y r
      go (Err n) r = r
  answered_on (Err n, t, k) x s p h = let e = ap (λ (v : Result (model.Standing stage) Stop × State × ℕ). v.0) h in cc

  refused_on : (r : Result (Decision q) Stop × State × ℕ) (n : Stop) (s : State) (p : ℕ)
      → ◌≡◌ {A = Result (model.Standing stage) Stop × State × ℕ} (Err n, s, p) (with_question q r) → read_on memory es q r more ≡ stopped [] s (drop p es) p n
  refused_on (Ok d, t, k) n s p h = let e = ap (λ (v : Result (model.Standing stage) Stop × State × ℕ). v.0) h in cc
  refused_on (Err m, t, k) n s p h =
      ap (λ (v : Result (model.Standing stage) Stop × State × ℕ). go v.0 v.1 v.2) (sym h)
    where
      go : Result (model.Standing stage) Stop → State → ℕ → Reading stage
      go (Ok y) u i = stopped [] u (drop i es) i n
      go (Err o) u i = stopped [] u (drop i es) i o

-- what is left of the questions, behind those that are answered, gives what all of them give
abbrev pub Left : ℕ → List Entry → List Question → ℕ → List Standing → State → ℕ → Reading stage → Type 0
Left memory es qs i answers s p all = with_firsts (standing_calls (take i answers)) (by_step.read_each memory es (drop i qs) s p) ≡ all

-- question i, read over a map of m cells and a source of the entries l
module _ (memory : ℕ) (es : List Entry) (qs : List Question) (i : ℕ) (answers : List Standing) (s : State) (p : ℕ) (all : Reading stage)
    {m : ℕ} {l : List Entry} (long : m ≡ memory) (same : l ≡ es) (within : i < length qs) (left : Left memory es qs i answers s p all) where
  here : (q : Question) → with_firsts (standing_calls (take i answers)) (read_on memory es (get_or qs i q) (read_step memory es (get_or qs i q) s p) (λ t k. by_step.read_each memory es (drop (i + 1) qs) t k)) ≡ all
  here q = ap (with_firsts (standing_calls (take i answers))) (sym (at_drop_more (λ l. by_step.read_each memory es l s p) qs i q within)) ∙ left

  as_here : (q : Question) → call_read m l (get_or qs i q) s p ≡ call_read memory es (get_or qs i q) s p
  as_here q = ap₂ (λ n e. call_read n e (get_or qs i q) s p) long same

  pub answered_more : (q : Question) (a : Standing) (t : State) (k : ℕ) → i < length answers
      → ◌≡◌ {A = Result (model.Standing stage) Stop × State × ℕ} (Ok (stood_of a), t, k) (call_read m l (get_or qs i q) s p)
      → Left memory es qs (i + 1) (set answers i a) t k all
  unfolding call_read
  answered_more q a t k room read =
      let before : List (model.Standing stage) = standing_calls (take i answers) in
      let rest : Reading stage = by_step.read_each memory es (drop (i + 1) qs) t k in
      ap (λ xs. with_firsts xs rest) (ap standing_calls (take_more_set answers i a room) ∙ map-append stood_of (take i answers) (a ∷ []))
      ∙ one_first before (stood_of a) rest
      ∙ sym (ap (with_firsts before) (answered_on memory es (get_or qs i q) (λ u j. by_step.read_each memory es (drop (i + 1) qs) u j) (read_step memory es (get_or qs i q) s p) (stood_of a) t k (read ∙ as_here q)))
      ∙ here q

  pub refused_here : (q : Question) (why : ReadError) (t : State) (k : ℕ) (now : List Entry) → now ≡ es
      → ◌≡◌ {A = Result (model.Standing stage) Stop × State × ℕ} (Err (stop_of why), t, k) (call_read m l (get_or qs i q) s p)
      → reading_of (length qs) (Some (i, why)) answers t now k ≡ all
  unfolding call_read
  refused_here q why t k now e read =
      let before : List (model.Standing stage) = standing_calls (take i answers) in
      ap (λ j. stopped before t (drop k j) k (stop_of why)) e
      ∙ sym (stopped_firsts before t (drop k es) k (stop_of why))
      ∙ sym (ap (with_firsts before) (refused_on memory es (get_or qs i q) (λ u j. by_step.read_each memory es (drop (i + 1) qs) u j) (read_step memory es (get_or qs i q) s p) (stop_of why) t k (read ∙ as_here q)))
      ∙ here q

-- one answer more that stands
pub stands_more : (answers : List Standing) (i : ℕ) (a : Standing) → i < length answers → Each Stands (take i answers) → Stands a → Each Stands (take (i + 1) (set answers i a))
stands_more answers i a room stood more = subst (Each Stands) (sym (take_more_set answers i a room)) (each_append Stands (take i answers) (a ∷ []) stood (more, tt))

-- all questions are answered
pub all_answered : (memory : ℕ) (es : List Entry) (qs : List Question) (i : ℕ) (answers : List Standing) (s : State) (p : ℕ) (all : Reading stage) (now : List Entry) → i ≡ length qs → now ≡ es
    → Left memory es qs i answers s p all → reading_of (length qs) None answers s now p ≡ all
all_answered memory es qs i answers s p all now e same left =
    let none : drop i qs ≡ [] = drop_all i qs (omega arith) in
    ap (λ j. all_read (standing_calls (take (length qs) answers)) s (drop p j) p) same
    ∙ sym (all_firsts (standing_calls (take (length qs) answers)) s (drop p es) p)
    ∙ ap₂ (λ n l. with_firsts (standing_calls (take n answers)) (by_step.read_each memory es l s p)) (sym e) (sym none)
    ∙ left

-- a reading by its parts
abbrev answers_of : Reading stage → List (model.Standing stage)
answers_of (all_read xs s es p) = xs
answers_of (stopped xs s es p n) = xs

abbrev state_then : Reading stage → State
state_then (all_read xs s es p) = s
state_then (stopped xs s es p n) = s

abbrev place_then : Reading stage → ℕ
place_then (all_read xs s es p) = p
place_then (stopped xs s es p n) = p

abbrev goes_on : Reading stage → Bool
goes_on (all_read xs s es p) = true
goes_on (stopped xs s es p n) = false

-- the record of a list of calls, read with the standing questions, gives the standing decisions
module _ (memory : ℕ) (from : State) (es : List Entry) (qs : List Question) (answers : List Standing) (to : State) (place : ℕ) (sound : Sound from) (mapped : units from ≤ memory) where
  read_record : (calls : List Call) (told : List Answered) (o : Outcome from calls told es) → qs ≡ map (question_of stage) (standing calls told)
      → reads stage memory from qs es 0 ≡ all_read (standing calls told) (left_by o) [] (length es)
  read_record calls told o asked =
      let after = run stage o.memory o.room (fresh stage from o.lent) (empty_book stage) (map asking calls) in
      let stood : after.book.standing ≡ standing calls told = standing_is o.memory o.room from o.lent calls o.answered in
      let world : after.world ≡ (ran o.memory o.room calls (fresh stage from o.lent)).world = sym (ran_world o.memory o.room calls (fresh stage from o.lent) (empty_book stage)) in
      let record_is : after.world.core.entries ≡ es = ap (λ (w : World stage). w.core.entries) world ∙ o.left in
      ap₂ (λ l m. reads stage memory from l m 0) (asked ∙ ap (map (question_of stage)) (sym stood)) (sym record_is)
      ∙ stage_reads_record o.memory memory o.room from o.lent (map asking calls) sound mapped
      ∙ ap₂ (λ xs s. all_read xs s [] (length after.world.core.entries)) stood (ap (λ (w : World stage). w.core.state) world)
      ∙ ap (λ l. all_read (standing calls told) (left_by o) [] (length l)) record_is

  pub reads_back : (stop : Option (ℕ × ReadError)) → reading_of (length qs) stop answers to es place ≡ reads stage memory from qs es 0 → ReadsBackTo from es qs stop answers to place
  reads_back None read calls told o asked =
      let e = read ∙ read_record calls told o asked in
      (refl, ap answers_of e, ap state_then e, ap place_then e)
  reads_back (Some (i, why)) read calls told o asked =
      let e = ap goes_on (read ∙ read_record calls told o asked) in
      absurd (false_true e)
    where
      false_true : false ≡ true → ⊥
      false_true h = cc

-- a read by the call that answers it: its result is mapped to that call
module _ {A : Type 0} (q : Question) (number : A → Decision q) (view : A → Standing) (memory : ℕ) (es : List Entry) (s : State) (p : ℕ) where
  as_call : (r : Result A ReadError) (t : State) (k : ℕ) → ((x : A) → stood_of (view x) ≡ record { question = q; decision = number x })
      → ◌≡◌ {A = Result (model.Standing stage) Stop × State × ℕ} (call_seen (result_map_both view (λ e. e) r), t, k) (with_question q (seen_by number r, t, k))
  as_call (Ok x) t k stood = ap (λ y. (Ok y, t, k)) (stood x)
  as_call (Err e) t k stood = refl

  pub read_made : (r : Result A ReadError) (b : Result Standing ReadError) {P : A → Standing → Type 0} {t : State} {k : ℕ} {c : Question}
      → c ≡ q → MatchResult r (λ x. IsOkAnd b (P x)) (λ e. b ≡ Err e) → ((x : A) (y : Standing) → P x y → y ≡ view x)
      → ((x : A) → stood_of (view x) ≡ record { question = q; decision = number x })
      → ◌≡◌ {A = Result (Decision q) Stop × State × ℕ} (seen_by number r, t, k) (read_step memory es q s p)
      → ◌≡◌ {A = Result (model.Standing stage) Stop × State × ℕ} (call_seen b, t, k) (call_read memory es c s p)
  unfolding call_read
  read_made r b {P} {t} {k} same shown by stood made =
      ap (λ y. (call_seen y, t, k)) (mapped view r b shown by)
      ∙ as_call r t k stood
      ∙ ap (with_question q) made
      ∙ sym (ap (λ c. call_read memory es c s p) same)

-- the same of a call that reads no symbol
module _ (memory : ℕ) (es : List Entry) (q : Question) (s : State) (p : ℕ) where
  pub read_shown : (d : Decision q) (x : Standing) {t : State} {k : ℕ} {c : Question} → c ≡ q → stood_of x ≡ record { question = q; decision = d }
      → ◌≡◌ {A = Result (Decision q) Stop × State × ℕ} (Ok d, t, k) (read_step memory es q s p)
      → ◌≡◌ {A = Result (model.Standing stage) Stop × State × ℕ} (Ok (stood_of x), t, k) (call_read memory es c s p)
  unfolding call_read
  read_shown d x {t} {k} same e h = ap (λ y. (Ok y, t, k)) e ∙ ap (with_question q) h ∙ sym (ap (λ c. call_read memory es c s p) same)

  pub read_turned : (n : Stop) {t : State} {k : ℕ} {c : Question} → c ≡ q
      → ◌≡◌ {A = Result (Decision q) Stop × State × ℕ} (Err n, t, k) (read_step memory es q s p)
      → ◌≡◌ {A = Result (model.Standing stage) Stop × State × ℕ} (Err n, t, k) (call_read memory es c s p)
  unfolding call_read
  read_turned n same h = ap (with_question q) h ∙ sym (ap (λ c. call_read memory es c s p) same)

-- a start that is not refused has a map of as many cells as the tile has units
pub start_mapped : (columns rows last memory : ℕ) → start_asked columns rows last memory ≡ none → units (start columns rows last) ≤ memory
unfolding start
start_mapped columns rows last memory ok =
    leb→le (columns * rows) memory (unless_true (leb (columns * rows) memory) no.MapMemory (or_else_second _ _ (or_else_second _ _ ok)))

pub start_columns : (columns rows last : ℕ) → units (start columns rows last) ≡ columns * rows
unfolding start
start_columns columns rows last = refl

-- a segment that was read for a block that is skipped, or is not
pub segment_stood : (bo : TileBlockOffset) (z : BlockSize) (skip : Bool) (id : ℕ)
    → stood_of (record { call = call.Segment bo z (cond skip None (Some id)); segment = id }) ≡ record { question = question.Segment bo.x bo.y z skip; decision = id }
segment_stood bo z true id = refl
segment_stood bo z false id = refl

-- a source that is at its first entry reads the whole record
pub read_whole : (r : Result ReadRun ReplayError) (memory : ℕ) (from : State) (qs : List Question) (answers : List Standing) (cells : List Cell) (l now es : List Entry) (p end : ℕ)
    → l ≡ es → now ≡ l → p ≡ 0
    → IfOk r (λ r. reading_of (length qs) r.stop answers (state_read r.reader cells) now end ≡ reads stage memory from qs (drop p l) p)
    → IfOk r (λ r. p ≡ 0 → ReadsBackTo from l qs r.stop answers (state_read r.reader cells) end)
    → IfOk r (λ r. (place : ℕ)
    × (reading_of (length qs) r.stop answers (state_read r.reader cells) es place ≡ reads stage memory from qs es 0)
    × ReadsBackTo from es qs r.stop answers (state_read r.reader cells) place)
read_whole (Ok r) memory from qs answers cells l now es p end same kept first read back = (
  end,
  ap (λ x. reading_of (length qs) r.stop answers (state_read r.reader cells) x end) (sym (kept ∙ same))
      ∙ read
      ∙ ap₂ (λ k x. reads stage memory from qs (drop k x) k) first same,
  subst (λ x. ReadsBackTo from x qs r.stop answers (state_read r.reader cells) end) same (back first),
)
read_whole (Err e) memory from qs answers cells l now es p end same kept first read back = tt
