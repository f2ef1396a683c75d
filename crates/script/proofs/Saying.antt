-- Values by their names, and a segment that is not skipped.
use Rattle.std.proofs.Common.{◌≡◌, ℕ, Bool, true, false, cond, ◌≢◌, List, [], ◌∷◌, Some, None, Ok, Err, codes, Option, Result, sym, refl, ap, subst, ◌∙◌, IfSome, MatchOption, MatchResult}
use Rattle.std.specs.Option.{option_map}
use Rattle.std.specs.Str.{bytes_eq}
use Rattle.std.proofs.lemmas.Bool.{false_from_ne_true}
use Rattle.std.proofs.lemmas.Iterator.Adapters.{option_map_id}
use Rattle.std.proofs.lemmas.Slice.Eq.{bytes_eq-Decides}
use Rattle.script.specs.Names.{among}
use Rattle.script.specs.declared.fault.Fault.{Fault}
use Rattle.script.specs.declared.fault.Fault.TheVariants as no
use Rattle.script.specs.Numbers.{read_number, some_number, read_id}
use Rattle.script.specs.Statements.{sink_from, said}

pub differ : (xs ys : List ℕ) → (xs ≡ ys → ⊥) → bytes_eq xs ys ≡ false
differ xs ys h = false_from_ne_true (bytes_eq xs ys) (λ e. h ((bytes_eq-Decides xs ys).0 e))

-- what a search among named values answers
module _ {A : Type 0} (name : A → List ℕ) (w : List ℕ) where
  tested_first : (a : A) (more : List A) (t : Bool) → bytes_eq w (name a) ≡ t → IfSome (among name more w) (λ b. w ≡ name b) → IfSome (cond t (Some a) (among name more w)) (λ b. w ≡ name b)
  tested_first a more true e h = (bytes_eq-Decides w (name a)).0 e
  tested_first a more false e h = h

  named : (all : List A) → IfSome (among name all w) (λ a. w ≡ name a)
  named [] = tt
  named (a ∷ more) = tested_first a more (bytes_eq w (name a)) refl (named more)

  searched : (all : List A) (r : Option A) → r ≡ among name all w → ((a : A) → among name all (name a) ≡ Some a) → IfSome r (λ a. w ≡ name a) → MatchOption r ((a : A) → w ≢ name a) (λ a. w ≡ name a)
  searched all None e found h = λ a same. let none : ◌≡◌ {A = Option A} None (Some a) = e ∙ ap (among name all) same ∙ found a in cc
  searched all (Some a) e found h = h

  -- what is told by name is what the search answers
  pub by_name : (all : List A) (r : Option A) → ((a : A) → among name all (name a) ≡ Some a) → MatchOption r ((a : A) → w ≢ name a) (λ a. w ≡ name a) → r ≡ among name all w
  by_name all (Some a) found same = sym (ap (among name all) same ∙ found a)
  by_name all None found other = sym (none (among name all w) (named all))
    where
      none : (o : Option A) → IfSome o (λ a. w ≡ name a) → o ≡ None
      none None h = refl
      none (Some a) h = absurd (other a h)

  pub names : (all : List A) (r : Option A) → option_map (λ a. a) r ≡ among name all w → ((a : A) → among name all (name a) ≡ Some a) → MatchOption r ((a : A) → w ≢ name a) (λ a. w ≡ name a)
  names all r e found = let same = sym (option_map_id r) ∙ e in searched all r same found (subst (λ o. IfSome o (λ a. w ≡ name a)) (sym same) (named all))

some_read : (r : Result ℕ Fault) (q : Result (Option ℕ) Fault) → MatchResult r (λ n. q ≡ Ok (Some n)) (λ f. q ≡ Err f) → q ≡ some_number r
some_read (Ok n) q is = is
some_read (Err f) q is = is

-- a segment's id that is not `skipped`
pub unskipped : (w : List ℕ) (r : Result ℕ Fault) (q : Result (Option ℕ) Fault) → (w ≡ codes "skipped" → ⊥) → r ≡ read_number w → MatchResult r (λ n. q ≡ Ok (Some n)) (λ f. q ≡ Err f) → q ≡ read_id w
unskipped w r q h e is = rw (differ w (codes "skipped") h, ← e) (some_read r q is)

-- a kind of sink, and the first word of a line, that are none of the known ones
pub unknown_sink : (w : List ℕ) (ws : List (List ℕ)) → (w ≡ codes "word" → ⊥) → (w ≡ codes "packed" → ⊥) → Err no.UnknownSink ≡ sink_from w ws
unknown_sink w ws a b = rw (differ w (codes "word") a, differ w (codes "packed") b) refl

pub record Unknown (w : List ℕ) : Type 0 where
  pub not_tile : w ≡ codes "tile" → ⊥
  pub not_sink : w ≡ codes "sink" → ⊥
  pub not_partition : w ≡ codes "partition" → ⊥
  pub not_skip : w ≡ codes "skip" → ⊥
  pub not_segment : w ≡ codes "segment" → ⊥
  pub not_alphas : w ≡ codes "alphas" → ⊥
  pub not_vector : w ≡ codes "vector" → ⊥
  pub not_context : w ≡ codes "context" → ⊥
  pub not_row : w ≡ codes "row" → ⊥
  pub not_log : w ≡ codes "log" → ⊥
  pub not_open : w ≡ codes "open" → ⊥
  pub not_back : w ≡ codes "back" → ⊥
  pub not_keep : w ≡ codes "keep" → ⊥

pub unknown_word : (w : List ℕ) (ws : List (List ℕ)) → Unknown w → Err no.UnknownWord ≡ said w ws
unknown_word w ws u =
    rw (differ w (codes "tile") u.not_tile, differ w (codes "sink") u.not_sink, differ w (codes "log") u.not_log, differ w (codes "partition") u.not_partition, differ w (codes "skip") u.not_skip, differ w (codes "segment") u.not_segment, differ w (codes "alphas") u.not_alphas, differ w (codes "vector") u.not_vector, differ w (codes "context") u.not_context, differ w (codes "row") u.not_row, differ w (codes "open") u.not_open, differ w (codes "back") u.not_back, differ w (codes "keep") u.not_keep) refl
