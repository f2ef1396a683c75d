-- The record reads back, and tells two runs apart.
use Rattle.std.proofs.Common.{zero-add, ◌≡◌, ℕ, suc, ◌+◌, ◌≤◌, ◌≢◌, List, [], ◌∷◌, ◌++◌, map, length, sym, refl, ap, ◌∙◌, subst, subst₂, arith}
use mathlib.Core.Option.{none}
use Rattle.std.proofs.lemmas.List.{append_assoc, append-nil, length-append, map-append, get_or_append_left}
use Rattle.cdf.specs.declared.entry.Entry.{Entry}
use Rattle.cdf.specs.Words.{Words}
use Rattle.model.proofs.Standing.{Fine, Reached, map_fine, or_else_both, or_else_first, run_reached}
use Rattle.model.proofs.Trees.{reads_back, tells_apart}
use Rattle.model.specs.Coders.{after}
use Rattle.model.specs.Runs.{Core, Laws, Ran, ReadsRecord, Standing, TellsRunsApart, all_read, empty_book, fresh, map_asked_if, next_state, question_of, read_asked, reads, run, sent, symbol, with_first, worked}
use Rattle.model.specs.Subject.{Subject}
use Rattle.model.specs.Tree.{Apart, Leads, Syntax, coded, done, read, read_as, written}

-- the symbols of what is written are the path
pub written_symbols : (D : Type 0) (S : Subject) (w : Words) (t : Syntax D) (p : List ℕ) (d : D) → Leads t p d → map (symbol S) (written w t p).entries ≡ p
written_symbols D S w (done c) [] d h = refl
written_symbols D S w (coded k f) (s ∷ p) d h = ap (λ z. s ∷ z) (written_symbols D S (after w k s) (f s) p d h.1)
written_symbols D S w _ p d h = absurd h

apart_behind : (a p q : List ℕ) → Apart p q → Apart (a ++ p) (a ++ q)
apart_behind [] p q h = h
apart_behind (x ∷ a) p q h =
    let g : Apart (a ++ p) (a ++ q) = apart_behind a p q h in
    (suc g.0, omega arith, omega arith, g.3)

apart_before : (p q a b : List ℕ) → Apart p q → Apart (p ++ a) (q ++ b)
apart_before p q a b h = (
  h.0,
  rw length-append (omega arith),
  rw length-append (omega arith),
  λ e. h.3 (sym (get_or_append_left p a 0 h.0 h.1) ∙ e ∙ get_or_append_left q b 0 h.0 h.2),
)

module _ (S : Subject) (L : Laws S) where
  -- the entries that the calls write, one after the other
  abbrev record_of : S.State → List (Standing S) → List Entry
  record_of s [] = []
  record_of s (x ∷ xs) = (sent S s x.question x.decision).entries ++ record_of (next_state S s x) xs

  module _ (memory : ℕ) (room : List Entry → ℕ) where
    reached_record : (c : Core S) (xs : List (Standing S)) (e : Core S) → Reached S L memory room c xs e → e.entries ≡ c.entries ++ record_of c.state xs
    reached_record c [] e r = ap (λ z. z.entries) (sym r) ∙ sym (append-nil c.entries)
    reached_record c (x ∷ xs) e r =
        reached_record (worked S c x) xs e r.1
        ∙ append_assoc c.entries (sent S c.state x.question x.decision).entries (record_of (next_state S c.state x) xs)

    leads : (c : Core S) (x : Standing S) → S.Sound c.state → Fine S L memory room c x
        → Leads (S.tree c.state x.question) (S.path c.state x.question x.decision) x.decision
    leads c x sound f =
        subst (λ d. Leads (S.tree c.state x.question) (S.path c.state x.question d) d) f.1
        (L.leads c.state (room c.entries) x.question x.decision sound f.0)

    next_sound : (c : Core S) (x : Standing S) → S.Sound c.state → Fine S L memory room c x → S.Sound (worked S c x).state
    next_sound c x sound f = L.sound_next c.state (room c.entries) x sound f.0 f.1

    -- the reader is asked no more than the writer
    asked_reader : (memory' : ℕ) (c : Core S) (x : Standing S) → S.units c.state ≤ memory' → Fine S L memory room c x → read_asked S memory' c.state x.question ≡ none
    asked_reader memory' c x h f =
        or_else_both (map_asked_if S (S.brings_map x.question) memory' c.state) _ (map_fine S L memory' room (S.brings_map x.question) c.state h)
        (or_else_first (S.placed c.state x.question) _ f.0)

    reads_reached : (memory' : ℕ) (c : Core S) (xs : List (Standing S)) (e : Core S) (rest : List Entry) (place : ℕ) → S.units c.state ≤ memory' → S.Sound c.state
        → Reached S L memory room c xs e
        → reads S memory' c.state (map (question_of S) xs) (record_of c.state xs ++ rest) place ≡ all_read xs e.state rest (place + length (record_of c.state xs))
    reads_reached memory' c [] e rest place enough sound r = let z : place ≡ place + 0 = omega arith in ap (λ z. all_read [] z.state rest place) r ∙ ap (all_read [] e.state rest) z
    reads_reached memory' c (x ∷ xs) e rest place enough sound r =
        let q : S.Question = x.question in
        let d : S.Decision q = x.decision in
        let s : S.State = c.state in
        let mine : List Entry = (sent S s q d).entries in
        let later : List Entry = record_of (next_state S s x) xs in
        let one : read (S.words s) (S.tree s q) place 0 place (mine ++ (later ++ rest)) ≡ read_as d (sent S s q d).words (later ++ rest) (place + length mine) =
        reads_back (S.Decision q) (S.words s) (S.tree s q) place 0 place (S.path s q d) d (later ++ rest) (leads c x sound r.0) in
        let sum : place + length mine + length later ≡ place + length (mine ++ later) = (let l : length (mine ++ later) ≡ length mine + length later = length-append mine later in omega arith) in
        ap (λ z. reads S memory' s (q ∷ map (question_of S) xs) z place) (append_assoc mine later rest)
        ∙ go (asked_reader memory' c x enough r.0) one
        ∙ ap (with_first S x) (reads_reached memory' (worked S c x) xs e rest (place + length mine) (subst (λ n. n ≤ memory') (sym (L.units_next s x)) enough) (next_sound c x sound r.0) r.1)
        ∙ ap (all_read (x ∷ xs) e.state rest) sum
      where
        go : read_asked S memory' c.state x.question ≡ none
            → read (S.words c.state) (S.tree c.state x.question) place 0 place ((sent S c.state x.question x.decision).entries ++ (record_of (next_state S c.state x) xs ++ rest))
            ≡ read_as x.decision (sent S c.state x.question x.decision).words (record_of (next_state S c.state x) xs ++ rest) (place + length (sent S c.state x.question x.decision).entries)
            → reads S memory' c.state (x.question ∷ map (question_of S) xs) ((sent S c.state x.question x.decision).entries ++ (record_of (next_state S c.state x) xs ++ rest)) place
            ≡ with_first S x (reads S memory' (next_state S c.state x) (map (question_of S) xs) (record_of (next_state S c.state x) xs ++ rest) (place + length (sent S c.state x.question x.decision).entries))
        go free one = rw (free, one, reads) refl

  pub reads_record : ReadsRecord S
  reads_record memory memory' room start lent calls sound enough =
      let o : Core S = record { state = start; entries = [] } in
      let after : Ran S = run S memory room (fresh S start lent) (empty_book S) calls in
      let xs : List (Standing S) = after.book.standing in
      let e : Core S = after.world.core in
      let r : Reached S L memory room o xs e = run_reached S L memory room start lent calls sound in
      let all : e.entries ≡ record_of start xs = reached_record memory room o xs e r in
      ap (λ z. reads S memory' start (map (question_of S) xs) z 0) (all ∙ sym (append-nil (record_of start xs)))
      ∙ reads_reached memory room memory' o xs e [] 0 enough sound r
      ∙ ap (all_read xs e.state []) (zero-add (length (record_of start xs)) ∙ ap length (sym all))

  first_symbols : (memory : ℕ) (room : List Entry → ℕ) (c : Core S) (x : Standing S) (xs : List (Standing S)) → S.Sound c.state → Fine S L memory room c x
      → map (symbol S) (record_of c.state (x ∷ xs))
      ≡ S.path c.state x.question x.decision ++ map (symbol S) (record_of (next_state S c.state x) xs)
  first_symbols memory room c x xs sound f =
      map-append (symbol S) (sent S c.state x.question x.decision).entries (record_of (next_state S c.state x) xs)
      ∙ ap (λ z. z ++ map (symbol S) (record_of (next_state S c.state x) xs))
      (written_symbols (S.Decision x.question) S (S.words c.state) (S.tree c.state x.question) (S.path c.state x.question x.decision) x.decision (leads memory room c x sound f))

  abbrev said : (q : S.Question) → S.Decision q → Standing S
  said q d = record { question = q; decision = d }

  runs_apart : (memory memory' : ℕ) (room room' : List Entry → ℕ) (c : Core S) (same : List (Standing S)) (q : S.Question) (d e : S.Decision q) (more more' : List (Standing S)) (a b : Core S) → S.Sound c.state
      → Reached S L memory room c (same ++ said q d ∷ more) a → Reached S L memory' room' c (same ++ said q e ∷ more') b → d ≢ e
      → Apart (map (symbol S) (record_of c.state (same ++ said q d ∷ more))) (map (symbol S) (record_of c.state (same ++ said q e ∷ more')))
  runs_apart memory memory' room room' c [] q d e more more' a b sound r r' differ =
      subst₂ Apart (sym (first_symbols memory room c (said q d) more sound r.0)) (sym (first_symbols memory' room' c (said q e) more' sound r'.0))
      (apart_before (S.path c.state q d) (S.path c.state q e)
      (map (symbol S) (record_of (next_state S c.state (said q d)) more)) (map (symbol S) (record_of (next_state S c.state (said q e)) more'))
      (tells_apart (S.Decision q) (S.tree c.state q) (S.path c.state q d) (S.path c.state q e) d e
      (leads memory room c (said q d) sound r.0) (leads memory' room' c (said q e) sound r'.0) differ))
  runs_apart memory memory' room room' c (x ∷ same) q d e more more' a b sound r r' differ =
      subst₂ Apart (sym (first_symbols memory room c x (same ++ said q d ∷ more) sound r.0)) (sym (first_symbols memory' room' c x (same ++ said q e ∷ more') sound r'.0))
      (apart_behind (S.path c.state x.question x.decision)
      (map (symbol S) (record_of (next_state S c.state x) (same ++ said q d ∷ more))) (map (symbol S) (record_of (next_state S c.state x) (same ++ said q e ∷ more')))
      (runs_apart memory memory' room room' (worked S c x) same q d e more more' a b (next_sound memory room c x sound r.0) r.1 r'.1 differ))

  pub tells_runs_apart : TellsRunsApart S
  tells_runs_apart memory memory' room room' start lent lent' calls calls' same q d e more more' sound p p' differ =
      let o : Core S = record { state = start; entries = [] } in
      let one : Ran S = run S memory room (fresh S start lent) (empty_book S) calls in
      let two : Ran S = run S memory' room' (fresh S start lent') (empty_book S) calls' in
      let r : Reached S L memory room o (same ++ said q d ∷ more) one.world.core =
      subst (λ z. Reached S L memory room o z one.world.core) p (run_reached S L memory room start lent calls sound) in
      let r' : Reached S L memory' room' o (same ++ said q e ∷ more') two.world.core =
      subst (λ z. Reached S L memory' room' o z two.world.core) p' (run_reached S L memory' room' start lent' calls' sound) in
      subst₂ (λ u v. Apart (map (symbol S) u) (map (symbol S) v))
      (sym (reached_record memory room o (same ++ said q d ∷ more) one.world.core r)) (sym (reached_record memory' room' o (same ++ said q e ∷ more') two.world.core r'))
      (runs_apart memory memory' room room' o same q d e more more' one.world.core two.world.core sound r r' differ)
