-- The 64-bit FNV-1a hash.
use Rattle.std.specs.Prelude.{◌≡◌, ℕ, ◌*◌, ◌%◌, ◌^◌, List, fold, bit_xor}

abbrev pub offset : ℕ
offset = 0xcbf29ce484222325

abbrev pub prime : ℕ
prime = 0x100000001b3

-- one byte more
abbrev pub step : ℕ → ℕ → ℕ
step hash byte = (bit_xor hash byte * prime) % 2 ^ 64

-- several bytes more
abbrev pub steps : ℕ → List ℕ → ℕ
steps hash bs = fold step hash bs

-- the hash of a list of bytes
abbrev pub fnv : List ℕ → ℕ
fnv bs = steps offset bs

-- a hash is that of these bytes
abbrev pub Digests : ℕ → List ℕ → Type 0
Digests hash bs = hash ≡ fnv bs
