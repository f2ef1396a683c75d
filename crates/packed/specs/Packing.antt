-- How entries are packed into bytes: s, N, fl and fh, each in groups of seven bits, the lowest group first, the top bit
-- set on all but the last group, as few groups as go.
use Rattle.std.specs.Prelude.{◌≡◌, ℕ, ◌+◌, ◌-◌, ◌*◌, ◌/◌, ◌%◌, ◌<◌, ◌≤◌, ◌≢◌, true, cond, List, [], ◌∷◌, ◌++◌, length, take, drop, nat_lt}
use Rattle.std.specs.List.{list_all}
use Rattle.av1.specs.declared.refusal.Refusal.{Refusal}
use Rattle.av1.specs.declared.refusal.Refusal.TheVariants as no
use Rattle.cdf.specs.declared.entry.Entry.{Entry}
use Rattle.cdf.specs.Entries.{is_entry}

-- a number of 16 bits
abbrev pub groups : ℕ → List ℕ
groups n =
    cond (nat_lt n 128) (n ∷ [])
    (cond (nat_lt n 16384) ((128 + n % 128) ∷ (n / 128) ∷ [])
    ((128 + n % 128) ∷ (128 + (n / 128) % 128) ∷ (n / 16384) ∷ []))

abbrev pub packed_entry : Entry → List ℕ
packed_entry e = groups e.s ++ (groups e.n ++ (groups e.fl ++ groups e.fh))

abbrev pub packed : List Entry → List ℕ
packed [] = []
packed (e ∷ l) = packed_entry e ++ packed l

-- a group that is not the last one, under the groups of the number that it begins
abbrev pub under : ℕ → List ℕ → List ℕ
under b [] = []
under b (n ∷ ns) = ((b - 128) + 128 * n) ∷ ns

-- the numbers that bytes hold
abbrev pub numbers : List ℕ → List ℕ
numbers [] = []
numbers (b ∷ bs) = cond (nat_lt b 128) (b ∷ numbers bs) (under b (numbers bs))

-- numbers, four to an entry
abbrev pub entries_in : List ℕ → List Entry
entries_in (s ∷ n ∷ fl ∷ fh ∷ ns) = record { s = s; n = n; fl = fl; fh = fh } ∷ entries_in ns
entries_in _ = []

-- the entries that bytes hold
abbrev pub unpacked : List ℕ → List Entry
unpacked bs = entries_in (numbers bs)

-- bytes that are whole entries in the shortest form
pub record Whole (bs : List ℕ) : Type 0 where
  pub packs : packed (unpacked bs) ≡ bs
  pub entries : list_all is_entry (unpacked bs) ≡ true

-- no number of 16 bits in the shortest form stands at the front of some bytes
abbrev pub NoNumber : List ℕ → Type 0
NoNumber bs = (n : ℕ) (rest : List ℕ) → n < 65536 → bs ≢ groups n ++ rest

-- no entry stands at the front of some bytes
abbrev pub NoEntry : List ℕ → Type 0
NoEntry bs = (e : Entry) (rest : List ℕ) → is_entry e ≡ true → bs ≢ packed_entry e ++ rest

-- the bytes before `at` are whole entries, and no entry stands there
pub record FailsAt (bs : List ℕ) (at : ℕ) : Type 0 where
  pub inside : at < length bs
  pub before : Whole (take at bs)
  pub none : NoEntry (drop at bs)

-- the refusal of bytes that are no whole entries: it names where they fail
abbrev pub Refused : List ℕ → Refusal → Type 0
Refused bs why = (at : ℕ) × (why ≡ no.NotPacked at) × FailsAt bs at

-- entry i of whole bytes begins at a byte; where i is the number of entries, the bytes end there
pub record BeginsAt (bs : List ℕ) (i at : ℕ) : Type 0 where
  pub inside : i ≤ length (unpacked bs)
  pub start : at ≡ length (packed (take i (unpacked bs)))

-- where each entry ends, of entries that begin at a byte
abbrev pub ends_from : ℕ → List Entry → List ℕ
ends_from at [] = []
ends_from at (e ∷ l) = (at + length (packed_entry e)) ∷ ends_from (at + length (packed_entry e)) l

-- the entry of a first skip of 0, and its bytes; both hold by computing
abbrev pub first_skip : Entry
first_skip = record { s = 0; n = 2; fl = 32768; fh = 16384 }

pub record Worked : Type 0 where
  pub skip : packed_entry first_skip ≡ 0x00 ∷ 0x02 ∷ 0x80 ∷ 0x80 ∷ 0x02 ∷ 0x80 ∷ 0x80 ∷ 0x01 ∷ []
  pub skip_back : unpacked (packed_entry first_skip) ≡ first_skip ∷ []
  pub one_byte : groups 127 ≡ 0x7f ∷ []
  pub two_bytes : groups 128 ≡ 0x80 ∷ 0x01 ∷ []
  pub two_bytes_still : groups 16383 ≡ 0xff ∷ 0x7f ∷ []
  pub three_bytes : groups 16384 ≡ 0x80 ∷ 0x80 ∷ 0x01 ∷ []
