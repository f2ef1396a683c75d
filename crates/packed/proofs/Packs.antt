-- The packed bytes of a list, entry by entry.
use Rattle.std.proofs.Common.{◌≡◌, ℕ, zero, suc, ◌+◌, ◌<◌, ◌≤◌, ◌++◌, Ok, take, List, ◌∷◌, Option, length, get_or, drop, sum_by, sym, refl, ap, ◌∙◌, arith, add-one, drop-cons}
use Rattle.std.specs.List.{filter_map, range_with_len}
use Rattle.std.specs.Result.{result_ok}
use Rattle.std.proofs.lemmas.Bool.{lt-ltb}
use Rattle.std.proofs.lemmas.List.{length-append, drop_all}
use Rattle.std.proofs.lemmas.List.Recursion.{is_sum_by}
use Rattle.cdf.specs.declared.entry.Entry.{Entry}
use Rattle.packed.proofs.Unpacking.{packed_more, packed_within}
use Rattle.packed.specs.Packing.{packed_entry, packed}
use Rattle.record.specs.Sinks.{no_entry, entry_answer}

-- what a sink answers at a place, if it has an entry there
abbrev pub entry_there : List Entry → ℕ → Option Entry
entry_there l i = result_ok (entry_answer l i)

entries_from : (l : List Entry) (n i : ℕ) → i + n ≡ length l → filter_map (entry_there l) (range_with_len i n) ≡ drop i l
entries_from l zero i h = sym (drop_all i l (omega arith))
entries_from l (suc n) i h =
    let here : i < length l = omega arith in
    rw (lt-ltb i (length l) here) (ap (λ m. get_or l i no_entry ∷ m) (entries_from l n (i + 1) (omega arith) ∙ ap (λ k. drop k l) (add-one i)) ∙ sym (drop-cons l i no_entry here))

pub all_entries : (l : List Entry) → filter_map (entry_there l) (range_with_len 0 (length l)) ≡ l
all_entries l = entries_from l (length l) 0 (omega arith)

pub packed_sum : (l : List Entry) → length (packed l) ≡ sum_by (λ e. length (packed_entry e)) l
packed_sum l = is_sum_by (λ l. length (packed l)) (λ e. length (packed_entry e)) refl (λ e l. length-append (packed_entry e) (packed l)) l

pub entry_here : (l : List Entry) (i : ℕ) → i < length l → entry_answer l i ≡ Ok (get_or l i no_entry)
entry_here l i h = let a = lt-ltb i (length l) h in simp a

-- one entry of a sink more
pub one_packed : (l : List Entry) (i : ℕ) (e : Entry) → i < length l → entry_answer l i ≡ Ok e → packed (take (i + 1) l) ≡ packed (take i l) ++ packed_entry e
one_packed l i e h p =
    let a = lt-ltb i (length l) h in
    let same : get_or l i no_entry ≡ e = let q = rw a at p in cc in
    packed_more l i no_entry h ∙ ap (λ x. packed (take i l) ++ packed_entry x) same

pub one_fits : (l : List Entry) (i : ℕ) (e : Entry) → i < length l → entry_answer l i ≡ Ok e → length (packed (take i l)) + length (packed_entry e) ≤ length (packed l)
one_fits l i e h p = omega (arith, ap length (one_packed l i e h p), length-append (packed (take i l)) (packed_entry e), packed_within l (i + 1))
