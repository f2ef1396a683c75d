-- Whether words stay lawful with a window put in is seen at the window and the word behind it.
use Rattle.std.proofs.Common.{◌≡◌, ℕ, zero, suc, ◌+◌, ◌-◌, ◌<◌, ◌≤◌, min, Bool, true, IsTrue, Option, Some, None, MatchOption, cond, ◌&&◌, ◌⊎◌, List, ◌++◌, length, get_or, take, drop, sym, refl, ap, ◌∙◌, subst, ap₂, inl, inr, arith, le→leb}
use borrow.Rule.Slice.PartMut.{put_mid}
use lib.Seq.{sets, length-sets}
use Rattle.std.specs.Slice.{IsItemAt}
use Rattle.std.specs.Borrow.{Bor}
use Rattle.std.proofs.lemmas.List.{drop-drop}
use Rattle.cdf.specs.Layout.{lawful, words_in_all, SoundWords}
use Rattle.cdf.specs.Limits.{limits, keeps_to, word_before, fits_at, all_from}
use Rattle.cdf.specs.Words.{Words}
use Rattle.cdf.specs.Windows.{put_window}
use Rattle.cdf.proofs.Booleans.{true→T, T→true, and_true}
use Rattle.cdf.proofs.WordByWord.{lawful_by_limits}
use Rattle.cdf.proofs.Runs.{all_local, all_step, all_none}
use Rattle.cdf.proofs.Stores.{getD_sets_out, getD_sets_in, sets_splice}

-- the number behind the window and the word behind it
abbrev pub window_end : ℕ → ℕ → ℕ
window_end first n = min (suc (first + n)) words_in_all

pub before_same : (w v : Words) (k : ℕ) → get_or v (k - 1) 0 ≡ get_or w (k - 1) 0 → word_before v k ≡ word_before w k
before_same w v zero e = refl
before_same w v (suc k) e = let p : suc k - 1 ≡ k = omega arith in subst (λ i. get_or v i 0 ≡ get_or w i 0) p e

fits_same : (w v : Words) (k : ℕ) → get_or v (k - 1) 0 ≡ get_or w (k - 1) 0 → get_or v k 0 ≡ get_or w k 0 → fits_at v k ≡ fits_at w k
fits_same w v k a b = ap₂ (λ x y. keeps_to (get_or limits k 0) x y) (before_same w v k a) b

pub window_lawful : (w : Words) (first : ℕ) (us : List ℕ) → SoundWords w → first + length us ≤ words_in_all
    → lawful (sets w first us) ≡ all_from (fits_at (sets w first us)) first (window_end first (length us) - first)
window_lawful w first us s h =
    lawful_by_limits v (length-sets w first us ∙ s.number)
    ∙ all_local (fits_at w) (fits_at v) words_in_all first (window_end first (length us) - first) (true→T _ (sym (lawful_by_limits w s.number) ∙ s.fits)) (omega arith) same
  where
    v : Words
    v = sets w first us

    same : (i : ℕ) → i < words_in_all → (i < first) ⊎ (first + (window_end first (length us) - first) ≤ i) → fits_at (sets w first us) i ≡ fits_at w i
    same i b (inl l) = fits_same w (sets w first us) i (getD_sets_out us w first (i - 1) (inl (omega arith))) (getD_sets_out us w first i (inl l))
    same i b (inr l) = fits_same w (sets w first us) i (getD_sets_out us w first (i - 1) (inr (omega arith))) (getD_sets_out us w first i (inr (omega arith)))

-- the test of the words from word k on, up to the word behind the window
abbrev pub left_to_test : Words → ℕ → ℕ → ℕ → Bool
left_to_test v first n k = all_from (fits_at v) k (window_end first n - k)

-- the word before the first word counts for nothing
limit_before : (k b before u : ℕ) → (0 < k → b ≡ before) → keeps_to (get_or limits k 0) b u ≡ keeps_to (get_or limits k 0) before u
unfolding limits
limit_before zero b before u e = refl
limit_before (suc k) b before u e = ap (λ x. keeps_to (get_or limits (suc k) 0) x u) (e (omega arith))

module _ (w : Words) (first : ℕ) (us : List ℕ) (s : SoundWords w) (h : first + length us ≤ words_in_all) where
  abbrev put : Words
  put = sets w first us

  inside : first + length us ≤ length w
  inside = omega (arith, h, s.number)

  -- the word before word k, where there is one
  abbrev pub Before : ℕ → ℕ → Type 0
  Before k b = 0 < k → b ≡ word_before put k

  -- before the first word of the window
  pub all_left : lawful put ≡ left_to_test put first (length us) (first + 0)
  all_left = let e : first ≡ first + 0 = omega arith in window_lawful w first us s h ∙ ap (left_to_test put first (length us)) e

  pub before_first : Before (first + 0) (get_or w (first - 1) 0)
  before_first = let z : first ≡ first + 0 = omega arith in subst (λ k. Before k (get_or w (first - 1) 0)) z (go first (omega arith))
    where
      go : (k : ℕ) → k ≤ first → Before k (get_or w (k - 1) 0)
      go zero l p = absurd (omega (arith, p))
      go (suc k) l p = let e : suc k - 1 ≡ k = omega arith in ap (λ i. get_or w i 0) e ∙ sym (getD_sets_out us w first k (inl (omega arith)))

  -- at a word of the window
  pub word_left : (i b : ℕ) (r : Bool) → i < length us → Before (first + i) b → keeps_to (get_or limits (first + i) 0) b (get_or us i 0) ≡ r
      → left_to_test put first (length us) (first + i) ≡ (r && left_to_test put first (length us) (first + (i + 1)))
  word_left i b r l before fits =
      let next : suc (first + i) ≡ first + (i + 1) = omega arith in
      all_step (fits_at put) (first + i) (window_end first (length us)) (omega arith)
      ∙ ap₂ (λ x k. x && left_to_test put first (length us) k)
      (ap (λ y. keeps_to (get_or limits (first + i) 0) (word_before put (first + i)) y) (getD_sets_in us w first i inside l)
      ∙ sym (limit_before (first + i) b (word_before put (first + i)) (get_or us i 0) before) ∙ fits) next

  pub before_next : (i : ℕ) → i < length us → Before (first + (i + 1)) (get_or us i 0)
  before_next i l p = let next : suc (first + i) ≡ first + (i + 1) = omega arith in sym (getD_sets_in us w first i inside l) ∙ ap (word_before put) next

  -- at the word behind it, where there is one
  pub behind_left : (i b : ℕ) (r : Bool) (o : Option (Bor ℕ)) → i ≡ length us → Before (first + i) b → IsItemAt w (first + length us) o
      → MatchOption o (IsTrue r) (λ x. r ≡ keeps_to (get_or limits (first + length us) 0) b x.now) → left_to_test put first (length us) (first + i) ≡ r
  behind_left i b r None e before at fits = all_none (fits_at put) (first + i) (window_end first (length us)) (omega (arith, at.3, s.number)) ∙ sym fits
  behind_left i b r (Some x) e before at fits =
      let k : ℕ = first + length us in
      ap (λ j. left_to_test put first (length us) (first + j)) e
      ∙ all_step (fits_at put) k (window_end first (length us)) (omega (arith, at.3, s.number))
      ∙ ap₂ (λ x y. x && y)
      (ap (λ y. keeps_to (get_or limits k 0) (word_before put k) y) (getD_sets_out us w first k (inr (omega arith)) ∙ sym (at.4 (omega arith) 0))
      ∙ sym (limit_before k b (word_before put k) x.now (λ p. before (omega (arith, p, e)) ∙ ap (λ j. word_before put (first + j)) e)) ∙ sym fits)
      (all_none (fits_at put) (suc k) (window_end first (length us)) (omega arith))
      ∙ and_true r

  -- what the copy of a window leaves; k is the length that the checker writes for the part: first + n - first
  pub copied : (k : ℕ) (ys : List ℕ) → lawful put ≡ true → ys ≡ us → k ≡ length us → put_mid first k w ys ≡ put_window first us w
  copied k ys fits same long =
      ap₂ (λ y j. take first w ++ (y ++ drop j (drop first w))) same long
      ∙ ap (λ z. take first w ++ (us ++ z)) (drop-drop (length us) first w)
      ∙ sym (sets_splice w us first inside)
      ∙ sym (ap₂ (λ a b. cond (a && b) put w) (T→true _ (le→leb (first + length us) words_in_all h)) fits)
