-- The first word of a text, and those behind it.
use Rattle.std.proofs.Common.{◌≡◌, ℕ, zero, suc, ◌+◌, ◌<◌, ◌≤◌, Bool, true, false, cond, ◌||◌, eqb, List, [], ◌∷◌, ◌++◌, length, get_or, take, drop, sym, refl, ap, ap₂, ◌∙◌, append_assoc, append-nil, get_or-drop, get_or-take, length-drop, length-take, add-one, subst, IsUtf8, rules, arith}
use Rattle.std.specs.Prelude.{All}
use Rattle.std.specs.Str.{IsCharBoundary}
use Rattle.std.proofs.lemmas.Str.{IsCharBoundary-start, IsCharBoundary-after_ascii}
use Rattle.std.proofs.lemmas.Bool.{both_ways}
use Rattle.script.specs.Splits.{blank, ends_word, flush, words_from, words_of}

no_hash : (b : ℕ) → blank b ≡ true → eqb b 35 ≡ false
no_hash b e = search (rules, arith)

-- blanks before a word are passed over
past_blanks : (bs : List ℕ) (n : ℕ) → All (λ b. blank b ≡ true) (take n bs) → words_of bs ≡ words_of (drop n bs)
past_blanks bs zero h = refl
past_blanks [] (suc n) h = refl
past_blanks (b ∷ bs) (suc n) h =
    let e : blank b ≡ true = h 0 0 (omega arith) in
    rw (no_hash b e, e) (past_blanks bs n (λ k d l. h (suc k) d (omega (arith, l))))

-- neither a comment nor a blank
plain_byte : (b : ℕ) → ends_word b ≡ false → (eqb b 35 ≡ false) × (blank b ≡ false)
plain_byte b e = both (eqb b 35) (blank b) e
  where
    both : (s t : Bool) → s || t ≡ false → (s ≡ false) × (t ≡ false)
    both false false h = (refl, refl)
    both true t h = absurd (both_ways true h refl)
    both false true h = absurd (both_ways true h refl)

-- the bytes before the end of a word belong to it
along : (bs w : List ℕ) (n : ℕ) → All (λ b. ends_word b ≡ false) (take n bs) → words_from w bs ≡ words_from (w ++ take n bs) (drop n bs)
along bs w zero h = ap (λ v. words_from v bs) (sym (append-nil w))
along [] w (suc n) h = ap (λ v. words_from v []) (sym (append-nil w))
along (b ∷ bs) w (suc n) h =
    let p = plain_byte b (h 0 0 (omega arith)) in
    rw (p.0, p.1) (along bs (w ++ b ∷ []) n (λ k d l. h (suc k) d (omega (arith, l))) ∙ ap (λ v. words_from v (drop n bs)) (append_assoc w (b ∷ []) (take n bs)))

-- a word that has begun ends before these bytes
ended : (bs w : List ℕ) → 0 < length w → (0 < length bs → ends_word (get_or bs 0 0) ≡ true) → words_from w bs ≡ w ∷ words_of bs
ended bs [] h e = absurd (omega arith)
ended [] (c ∷ w) h e = refl
ended (b ∷ bs) (c ∷ w) h e = by (eqb b 35) (blank b) (e (omega arith))
  where
    by : (s t : Bool) → s || t ≡ true → cond s (flush (c ∷ w)) (cond t (flush (c ∷ w) ++ words_of bs) (words_from ((c ∷ w) ++ b ∷ []) bs)) ≡ (c ∷ w) ∷ cond s (flush []) (cond t (flush [] ++ words_of bs) (words_from ([] ++ b ∷ []) bs))
    by true t q = refl
    by false true q = refl
    by false false q = absurd (both_ways false refl q)

-- none begins at a comment, or at the end
none_there : (bs : List ℕ) → (0 < length bs → blank (get_or bs 0 0) ≡ false) → (0 < length bs → ends_word (get_or bs 0 0) ≡ true) → words_of bs ≡ []
none_there [] d e = refl
none_there (b ∷ bs) d e = by (eqb b 35) (blank b) (d (omega arith)) (e (omega arith))
  where
    by : (s t : Bool) → t ≡ false → s || t ≡ true → cond s (flush []) (cond t (flush [] ++ words_of bs) (words_from ([] ++ b ∷ []) bs)) ≡ []
    by true t f q = refl
    by false true f q = absurd (both_ways true f refl)
    by false false f q = absurd (both_ways false refl q)

-- a line cut behind its blanks, and behind its first word, which has k bytes
pub record Cut (line text word rest : List ℕ) (k : ℕ) : Type 0 where
  pub words : words_of line ≡ words_of text
  pub dark : 0 < length text → blank (get_or text 0 0) ≡ false
  pub letters : All (λ b. ends_word b ≡ false) (take k text)
  pub end : k < length text → ends_word (get_or text k 0) ≡ true
  pub long : length word ≡ k
  pub word_is : word ≡ take k text
  pub rest_is : rest ≡ drop k text

pub cut : (line text word rest : List ℕ) (n k : ℕ) → n ≤ length line → All (λ b. blank b ≡ true) (take n line) → (n < length line → blank (get_or line n 0) ≡ false) → text ≡ drop n line
    → All (λ b. ends_word b ≡ false) (take k text) → (k < length text → ends_word (get_or text k 0) ≡ true) → length word ≡ k → word ≡ take k text → rest ≡ drop k text → Cut line text word rest k
cut line text word rest n k inside blanks dark t letters end long w r =
    record {
      words = past_blanks line n blanks ∙ ap words_of (sym t);
      dark = λ h. ap (λ l. blank (get_or l 0 0)) t ∙ ap blank (get_or-drop n line 0 0 ∙ ap (λ i. get_or line i 0) (add_zero n)) ∙ dark (omega (arith, h, ap length t, length-drop n line));
      letters = letters;
      end = end;
      long = long;
      word_is = w;
      rest_is = r;
    }
  where
    add_zero : (n : ℕ) → n + 0 ≡ n
    add_zero n = omega arith

pub no_word : (line text word rest : List ℕ) (k : ℕ) → Cut line text word rest k → length word ≡ 0 → (words_of line ≡ []) × (words_of rest ≡ [])
no_word line text word rest k c none =
    let zero_long : k ≡ 0 = omega (arith, c.long, none) in
    let same : rest ≡ text = c.rest_is ∙ ap (λ n. drop n text) zero_long in
    let nothing : words_of text ≡ [] = none_there text c.dark (λ h. ap (λ n. ends_word (get_or text n 0)) (sym zero_long) ∙ c.end (omega (arith, zero_long, h))) in
    (c.words ∙ nothing, ap words_of same ∙ nothing)

pub one_word : (line text word rest : List ℕ) (k : ℕ) → Cut line text word rest k → 0 < length word → words_of line ≡ word ∷ words_of rest
one_word line text word rest k c some =
    c.words ∙ along text [] k c.letters
    ∙ ap₂ words_from (sym c.word_is) (sym c.rest_is)
    ∙ ended rest word some (λ h. ap (λ l. ends_word (get_or l 0 0)) c.rest_is ∙ ap ends_word (get_or-drop k text 0 0 ∙ ap (λ i. get_or text i 0) (add_zero k)) ∙ c.end (omega (arith, h, ap length c.rest_is, length-drop k text)))
  where
    add_zero : (n : ℕ) → n + 0 ≡ n
    add_zero n = omega arith

blank_ascii : (b : ℕ) → blank b ≡ true → b < 128
blank_ascii b e = search (rules, arith)

-- a text may be cut behind blanks
pub behind_blanks : (line : List ℕ) (n : ℕ) → IsUtf8 line → n ≤ length line → All (λ b. blank b ≡ true) (take n line) → IsCharBoundary line n
behind_blanks line zero u inside h = IsCharBoundary-start line u
behind_blanks line (suc m) u inside h =
    let there : m < length line = omega (arith, inside) in
    let dark : blank (get_or line m 0) ≡ true = ap blank (sym (get_or-take (suc m) line m 0 (omega arith))) ∙ h m 0 (omega (arith, length-take (suc m) line, inside)) in
    subst (IsCharBoundary line) (add-one m) (IsCharBoundary-after_ascii line m u there (blank_ascii (get_or line m 0) dark))
