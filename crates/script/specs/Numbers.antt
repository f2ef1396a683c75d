-- What a word is as a number.
use Rattle.std.specs.Prelude.{ℕ, ◌^◌, Bool, false, cond, ◌&&◌, List, [], ◌∷◌, drop, ℤ, pos, neg_ℤ, Some, None, Ok, Err, codes, Option, Result, ◌==◌, nat_le, nat_lt}
use Rattle.std.specs.Str.Parse.{digits_value}
use Rattle.std.specs.Str.{all_ascii_digits, bytes_eq}
use Rattle.script.specs.declared.fault.Fault.{Fault}
use Rattle.script.specs.declared.fault.Fault.TheVariants.{NotANumber, NumberTooLarge, NegativeNumber}

-- one decimal digit or more, and nothing else
abbrev pub numeral : List ℕ → Bool
numeral [] = false
numeral (b ∷ bs) = all_ascii_digits (b ∷ bs)

-- a minus, and then a numeral
abbrev pub negative : List ℕ → Bool
negative [] = false
negative (b ∷ bs) = b == 45 && numeral bs

-- a numeral's value where it is below 2^64, and else what is wrong with the word
abbrev pub read_number : List ℕ → Result ℕ Fault
read_number bs =
    cond (numeral bs)
    (cond (nat_lt (digits_value 10 bs) (2 ^ 64)) (Ok (digits_value 10 bs)) (Err NumberTooLarge))
    (cond (negative bs) (Err NegativeNumber) (Err NotANumber))

-- a numeral, with or without a minus before it, from -2^31 up to 2^31 - 1, and else what is wrong with the word
abbrev pub read_integer : List ℕ → Result ℤ Fault
read_integer bs =
    cond (numeral bs)
    (cond (nat_lt (digits_value 10 bs) (2 ^ 31)) (Ok (pos (digits_value 10 bs))) (Err NumberTooLarge))
    (cond (negative bs)
    (cond (nat_le (digits_value 10 (drop 1 bs)) (2 ^ 31)) (Ok (neg_ℤ (pos (digits_value 10 (drop 1 bs))))) (Err NumberTooLarge))
    (Err NotANumber))

-- a number that may be left out, and is there
abbrev pub some_number : Result ℕ Fault → Result (Option ℕ) Fault
some_number (Ok n) = Ok (Some n)
some_number (Err f) = Err f

-- the id of a segment, which a skipped block does not bring
abbrev pub read_id : List ℕ → Result (Option ℕ) Fault
read_id bs = cond (bytes_eq bs (codes "skipped")) (Ok None) (some_number (read_number bs))
