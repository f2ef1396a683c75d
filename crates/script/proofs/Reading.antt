-- What a word is as a number.
use Rattle.std.proofs.Common.{◌≡◌, ℕ, ◌^◌, ◌<◌, ◌≤◌, Bool, true, false, cond, ◌&&◌, ◌||◌, eqb, ◌≢◌, List, [], ◌∷◌, length, get_or, drop, ℤ, pos, neg_ℤ, Some, None, Ok, Err, Option, Result, sym, refl, ap, ◌∙◌, arith, Bor, w32, lt-ltb, ltb-true, ne_eqb, eqb-true, MatchOption, MatchResult, ◌==◌, nat_lt, nat_le, leb-true, le-leb}
use Rattle.std.specs.Bool.{Decides}
use Rattle.std.specs.Char.{is_ascii_digit}
use Rattle.std.specs.List.{list_all}
use Rattle.std.specs.Result.{OkIff}
use Rattle.std.specs.Str.{all_ascii_digits}
use Rattle.std.specs.Str.Parse.{digits_value, ParsesUnsigned, ParsesSigned}
use Rattle.std.proofs.str.Laws.{both}
use Rattle.std.proofs.lemmas.Str.Parse.{IsNumeralModel, numerals_by_value, tells_all_ascii_digits, parse_digits, parse_signed_digits, parse_signed_minus}
use Rattle.script.specs.declared.fault.Fault.{Fault}
use Rattle.script.specs.declared.fault.Fault.TheVariants.{NumberTooLarge}
use Rattle.script.specs.Numbers.{numeral, negative, read_number, read_integer}

-- ---- numerals, and minuses before them

all_digits : (bs : List ℕ) → list_all is_ascii_digit bs ≡ all_ascii_digits bs
all_digits [] = refl
all_digits (b ∷ bs) = ap (λ t. is_ascii_digit b && t) (all_digits bs)

pub some_digits : (bs : List ℕ) → false ≡ (length bs == 0) → list_all is_ascii_digit bs ≡ numeral bs
some_digits [] e = cc
some_digits (b ∷ bs) e = all_digits (b ∷ bs)

-- what `strip_prefix` leaves behind a minus
pub after_minus : (bs : List ℕ) (o : Option (Bor (List ℕ))) (t : Bool) → MatchOption o ((rest : List ℕ) → bs ≢ 45 ∷ rest) (λ x. bs ≡ 45 ∷ x.now) → MatchOption o (t ≡ false) (λ x. t ≡ numeral x.now) → t ≡ negative bs
after_minus [] None t none e = e
after_minus (b ∷ bs) None t none e =
    let other : b ≢ 45 = λ same. none bs (ap (λ c. c ∷ bs) same) in
    e ∙ sym (ap (λ u. u && numeral bs) (ne_eqb b 45 other))
after_minus bs (Some x) t is e = e ∙ sym (ap negative is)

digits : (bs : List ℕ) → numeral bs ≡ true → (all_ascii_digits bs ≡ true) × (0 < length bs)
digits [] e = cc
digits (b ∷ bs) e = (e, omega arith)

-- a minus, and the numeral after it
minus_then : (bs : List ℕ) → negative bs ≡ true → (get_or bs 0 0 ≡ 45) × (numeral (drop 1 bs) ≡ true)
minus_then [] e = cc
minus_then (b ∷ bs) e = let k = both (eqb b 45) (numeral bs) e in (eqb-true b 45 k.0, k.1)

-- ---- what `parse` answers, with `map_err` behind it

own : IsNumeralModel (λ ds. all_ascii_digits ds ≡ true) (digits_value 10)
own = numerals_by_value _ tells_all_ascii_digits

abbrev pub Mapped : {A E : Type 0} → Result A E → Result A Fault → Type 0
Mapped r q = MatchResult r (λ n. q ≡ Ok n) (λ _. q ≡ Err NumberTooLarge)

read_where : {A E : Type 0} (r : Result A E) (q : Result A Fault) (P : Type 0) (v : A) (fits : Bool) → Mapped r q → OkIff r P v → Decides fits P → q ≡ cond fits (Ok v) (Err NumberTooLarge)
read_where (Ok n) q P v true is ok d = is ∙ ap Ok ok.1
read_where (Ok n) q P v false is ok d = let no = d.1 ok.0 in cc
read_where (Err e) q P v true is none d = absurd (none (d.0 refl))
read_where (Err e) q P v false is none d = is

pub number_read : {E : Type 0} (bs : List ℕ) (r : Result ℕ E) (q : Result ℕ Fault) → ParsesUnsigned 64 10 bs r → numeral bs ≡ true → Mapped r q → q ≡ read_number bs
number_read bs r q h e is =
    let ds = digits bs e in
    let n : ℕ = digits_value 10 bs in
    rw e (read_where r q ((0 < length bs) × (n < 2 ^ 64)) n (nat_lt n (2 ^ 64)) is (parse_digits own 64 bs r h ds.0) (λ t. (ds.1, ltb-true n (2 ^ 64) t), λ p. lt-ltb n (2 ^ 64) p.1))

plain_read : {E : Type 0} (bs : List ℕ) (r : Result ℤ E) (q : Result ℤ Fault) → ParsesSigned w32 10 bs r → numeral bs ≡ true → Mapped r q → q ≡ read_integer bs
plain_read bs r q h e is =
    let ds = digits bs e in
    let n : ℕ = digits_value 10 bs in
    rw e (read_where r q ((0 < length bs) × (n < 2 ^ 31)) (pos n) (nat_lt n (2 ^ 31)) is (parse_signed_digits own w32 bs r h ds.0) (λ t. (ds.1, ltb-true n (2 ^ 31) t), λ p. lt-ltb n (2 ^ 31) p.1))

minus_read : {E : Type 0} (bs : List ℕ) (r : Result ℤ E) (q : Result ℤ Fault) → ParsesSigned w32 10 bs r → numeral bs ≡ false → negative bs ≡ true → Mapped r q → q ≡ read_integer bs
minus_read bs r q h plain e is =
    let m = minus_then bs e in
    let ds = digits (drop 1 bs) m.1 in
    let n : ℕ = digits_value 10 (drop 1 bs) in
    rw (plain, e) (read_where r q ((all_ascii_digits (drop 1 bs) ≡ true) × (0 < length (drop 1 bs)) × (n ≤ 2 ^ 31)) (neg_ℤ (pos n)) (nat_le n (2 ^ 31)) is (parse_signed_minus own w32 bs r h m.0) (λ t. (ds.0, ds.1, leb-true n (2 ^ 31) t), λ p. le-leb n (2 ^ 31) p.2))

read_by : {E : Type 0} (bs : List ℕ) (r : Result ℤ E) (q : Result ℤ Fault) (t : Bool) → numeral bs ≡ t → ParsesSigned w32 10 bs r → (t || negative bs) ≡ true → Mapped r q → q ≡ read_integer bs
read_by bs r q true e h some is = plain_read bs r q h e is
read_by bs r q false e h some is = minus_read bs r q h e some is

pub integer_read : {E : Type 0} (bs : List ℕ) (r : Result ℤ E) (q : Result ℤ Fault) → ParsesSigned w32 10 bs r → (numeral bs || negative bs) ≡ true → Mapped r q → q ≡ read_integer bs
integer_read bs r q h some is = read_by bs r q (numeral bs) refl h some is
