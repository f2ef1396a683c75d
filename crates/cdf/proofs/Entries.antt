-- The entry of a symbol of a lawful table is an entry.
use Rattle.std.proofs.Common.{◌≡◌, ℕ, zero, suc, ◌+◌, ◌<◌, ◌≤◌, true, List, [], ◌∷◌, length, get_or, arith}
use Rattle.std.proofs.lemmas.Bool.Decides.{nat_tests}
use Rattle.cdf.specs.Entries.{is_entry}
use Rattle.cdf.specs.Layout.{descends, lawful}
use Rattle.cdf.specs.Words.{fl_at, fh_at, entry_at, Descends, LawfulTable}
use Rattle.cdf.proofs.Layouts.{descends_back}

pub lawful_words : (vs : List ℕ) → descends 32768 vs ≡ true → LawfulTable vs
lawful_words vs h = descends_back 32768 vs h

-- the value before a place, from a bound on
abbrev before : ℕ → List ℕ → ℕ → ℕ
before top vs zero = top
before top vs (suc s) = get_or vs s 0

pub value_falls : (top : ℕ) (vs : List ℕ) (s : ℕ) → Descends top vs → s + 1 < length vs → get_or vs s 0 ≤ before top vs s
value_falls top [] s d h = absurd d
value_falls top (c ∷ []) s d h = absurd (omega arith)
value_falls top (v ∷ x ∷ xs) zero d h = d.0
value_falls top (v ∷ x ∷ xs) (suc zero) d h = value_falls v (x ∷ xs) zero d.1 (omega arith)
value_falls top (v ∷ x ∷ xs) (suc (suc s)) d h = value_falls v (x ∷ xs) (suc s) d.1 (omega arith)

value_high : (top : ℕ) (vs : List ℕ) (s : ℕ) → Descends top vs → s + 1 < length vs → get_or vs s 0 ≤ top
value_high top [] s d h = absurd d
value_high top (c ∷ []) s d h = absurd (omega arith)
value_high top (v ∷ x ∷ xs) zero d h = d.0
value_high top (v ∷ x ∷ xs) (suc s) d h = let low : get_or (x ∷ xs) s 0 ≤ v = value_high v (x ∷ xs) s d.1 (omega arith) in omega (arith, d.0)

-- the values around a symbol do not rise
pub value_order : (vs : List ℕ) (s : ℕ) → LawfulTable vs → s < length vs → fh_at (length vs) vs s ≤ fl_at vs s
value_order vs zero falls l = let f : 1 < length vs → get_or vs 0 0 ≤ 32768 = λ h. value_falls 32768 vs 0 falls (omega (arith, h)) in grind (arith, nat_tests)
value_order vs (suc s) falls l = let f : suc (suc s) < length vs → get_or vs (suc s) 0 ≤ get_or vs s 0 = λ h. value_falls 32768 vs (suc s) falls (omega (arith, h)) in grind (arith, nat_tests)

pub entry_lawful : (vs : List ℕ) (s : ℕ) → descends 32768 vs ≡ true → 2 ≤ length vs → length vs ≤ 16 → s < length vs → is_entry (entry_at (length vs) vs s) ≡ true
entry_lawful vs s lawful least most below =
    let order : fh_at (length vs) vs s ≤ fl_at vs s = value_order vs s (lawful_words vs lawful) below in
    let top : fl_at vs s ≤ 32768 = high s below in
    grind (arith, nat_tests)
  where
    high : (s : ℕ) → s < length vs → fl_at vs s ≤ 32768
    high zero l = omega arith
    high (suc s) l = value_high 32768 vs s (lawful_words vs lawful) (omega arith)
