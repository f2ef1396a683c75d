-- The widths of symbols that rise add up to no more than the value before the first of them.
use Rattle.std.proofs.Common.{◌≡◌, ℕ, zero, suc, ◌+◌, ◌-◌, ◌<◌, ◌≤◌, true, cond, ltb, List, [], ◌∷◌, length, sum_by, refl, ap, ◌∙◌, add-zero, add-suc, arith, rules}
use Rattle.std.proofs.lemmas.List.Recursion.{is_sum_by}
use Rattle.std.proofs.lemmas.Bool.{le-ltb}
use Rattle.std.proofs.lemmas.Bool.Decides.{nat_tests}
use Rattle.cdf.specs.declared.tables.edges.Edge.{Edge}
use Rattle.cdf.specs.declared.tables.edges.Edge.TheVariants as edge
use Rattle.cdf.specs.Entries.{edge_symbols}
use Rattle.cdf.specs.Layout.{descends}
use Rattle.cdf.specs.Lists.{Rising}
use Rattle.cdf.specs.Words.{fl_at, fh_at, width_of, widths, LawfulTable}
use Rattle.cdf.proofs.Entries.{lawful_words, value_order}

-- the value before a symbol, 0 behind the last
abbrev top : List ℕ → ℕ → ℕ
top vs s = cond (ltb s (length vs)) (fl_at vs s) 0

width_top : (vs : List ℕ) (s : ℕ) → width_of (length vs) vs s ≡ top vs s - top vs (suc s)
width_top vs s = grind (arith, nat_tests)

top_falls : (vs : List ℕ) (s : ℕ) → LawfulTable vs → top vs (suc s) ≤ top vs s
top_falls vs s falls = let f : s < length vs → fh_at (length vs) vs s ≤ fl_at vs s = value_order vs s falls in grind (arith, nat_tests)

top_back : (vs : List ℕ) (b k : ℕ) → LawfulTable vs → top vs (b + k) ≤ top vs b
top_back vs b zero falls = rw add-zero (omega arith)
top_back vs b (suc k) falls = let f = top_falls vs (b + k) falls in let g = top_back vs b k falls in rw add-suc (omega arith)

-- a symbol that the table has not adds no width
width_out : (count : ℕ) (vs : List ℕ) (s : ℕ) (ss : List ℕ) → count ≤ s → widths count vs (s ∷ ss) ≡ widths count vs ss
width_out count vs s ss l = ap (λ b. cond b (fl_at vs s - fh_at count vs s) 0 + widths count vs ss) (le-ltb s count l) ∙ (let e : 0 + widths count vs ss ≡ widths count vs ss = omega arith in e)

-- symbols from the number of symbols on have no width, in any table
none_past : (count : ℕ) (vs : List ℕ) (b : ℕ) (ss : List ℕ) → Rising b ss → count ≤ b → widths count vs ss ≡ 0
none_past count vs b [] r l = refl
none_past count vs b (s ∷ ss) r l = width_out count vs s ss (omega (arith, r.0)) ∙ none_past count vs (suc s) ss r.1 (omega (arith, r.0))

pub widths_most : (vs : List ℕ) (b : ℕ) (ss : List ℕ) → LawfulTable vs → Rising b ss → widths (length vs) vs ss ≤ top vs b
widths_most vs b [] falls r = omega arith
widths_most vs b (s ∷ ss) falls r =
    let e : b + (s - b) ≡ s = omega (arith, r.0) in
    let here : top vs (b + (s - b)) ≤ top vs b = top_back vs b (s - b) falls in
    let down : top vs s ≤ top vs b = rw e at here in
    let rest : widths (length vs) vs ss ≤ top vs (suc s) = widths_most vs (suc s) ss falls r.1 in
    let width : width_of (length vs) vs s ≡ top vs s - top vs (suc s) = width_top vs s in
    omega (arith, top_falls vs s falls)

edge_rising : (e : Edge) → Rising 0 (edge_symbols e)
edge_rising edge.Bottom = search rules
edge_rising edge.Right = search rules

-- as the library's sum
pub widths_sum : (vs ss : List ℕ) → widths (length vs) vs ss ≡ sum_by (width_of (length vs) vs) ss
widths_sum vs = is_sum_by (widths (length vs) vs) (width_of (length vs) vs) refl (λ s ss. refl)

-- the symbols that are like a SPLIT have widths of 32768 at most together
pub edge_most : (vs : List ℕ) (e : Edge) → descends 32768 vs ≡ true → sum_by (width_of (length vs) vs) (edge_symbols e) ≤ 32768
edge_most vs e lawful =
    let most : widths (length vs) vs (edge_symbols e) ≤ top vs 0 = widths_most vs 0 (edge_symbols e) (lawful_words vs lawful) (edge_rising e) in
    rw (← widths_sum vs (edge_symbols e)) (grind (arith, nat_tests))
