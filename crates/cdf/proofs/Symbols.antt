-- A table lent as a part of the words: what its adaptation makes of all of them.
use Rattle.std.proofs.Common.{◌≡◌, ℕ, ◌+◌, ◌-◌, ◌≤◌, true, List, ◌++◌, length, take, drop, sym, ap, ◌∙◌, arith}
use lib.Seq.{sets}
use borrow.Rule.Slice.PartMut.{put_mid, mid_of}
use Rattle.std.proofs.lemmas.List.{drop-drop, length-take, length-drop}
use Rattle.cdf.specs.Layout.{in_layout, words_in_all}
use Rattle.cdf.specs.Words.{Words, Table, table, words_of, adapted, updated}
use Rattle.cdf.proofs.Adapting.{length_moved}
use Rattle.cdf.proofs.Layouts.{table_inside}
use Rattle.cdf.proofs.Stores.{sets_splice}

pub length_table : (w : Words) (t : Table) → in_layout t ≡ true → length w ≡ words_in_all → length (words_of w t) ≡ t.count
length_table w t h number =
    let inside : t.first + t.count ≤ words_in_all = table_inside t h in
    length-take t.count (drop t.first w) ∙ let d : length (drop t.first w) ≡ length w - t.first = length-drop t.first w in omega (arith, inside, number)

-- k is the length that the checker writes for the part: first + n - first
pub part_updated : (w : Words) (first n s k : ℕ) (ys : List ℕ) → length w ≡ words_in_all → in_layout (table first n) ≡ true → k ≡ n
    → ys ≡ adapted (length (mid_of first k w)) (mid_of first k w) s → put_mid first k w ys ≡ updated w (table first n) s
part_updated w first n s k ys number h e adapts =
    ap (λ z. take first w ++ (ys ++ z)) tail ∙ sym (sets_splice w ys first fits) ∙ ap (sets w first) same
  where
    long : length (words_of w (table first n)) ≡ n
    long = length_table w (table first n) h number

    same : ys ≡ adapted n (words_of w (table first n)) s
    same = adapts ∙ ap (λ (j : ℕ). adapted (length (take j (drop first w))) (take j (drop first w)) s) e ∙ ap (λ (j : ℕ). adapted j (words_of w (table first n)) s) long

    count : length ys ≡ n
    count = ap length same ∙ length_moved _ s 0 (words_of w (table first n)) ∙ long

    fits : first + length ys ≤ length w
    fits = let inside : first + n ≤ words_in_all = table_inside (table first n) h in omega (arith, count, number)

    tail : drop k (drop first w) ≡ drop (first + length ys) w
    tail = drop-drop k first w ∙ (let p : first + k ≡ first + length ys = omega (arith, e, count) in ap (λ (j : ℕ). drop j w) p)
