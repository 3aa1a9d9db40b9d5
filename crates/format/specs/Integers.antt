-- How integers are written, by bincode's specification. A writing is a list of pieces, each a list of bytes.
use Rattle.std.specs.Prelude.{ℕ, suc, ◌+◌, ◌-◌, ◌*◌, ◌/◌, ◌%◌, ◌^◌, Bool, cond, List, [], ◌∷◌, ℤ, pos, negsuc, ◌==◌, nat_lt}
use Rattle.format.specs.Numbers.{bytes}
use Rattle.format.specs.declared.config.Endianness.{Endianness}
use Rattle.format.specs.declared.config.IntEncoding.{IntEncoding}
use Rattle.format.specs.declared.config.IntEncoding.TheVariants.{Fixed, Variable}

-- a tag, and then the number in k bytes
abbrev pub tagged : Endianness → ℕ → ℕ → ℕ → List (List ℕ)
tagged o tag k n = (tag ∷ []) ∷ bytes o k n ∷ []

-- a number below 251 is one byte; else 251 and 2 bytes, 252 and 4, 253 and 8, the first that holds it
abbrev pub variable : Endianness → ℕ → List (List ℕ)
variable o n =
    cond (nat_lt n 251) ((n ∷ []) ∷ []) (cond (nat_lt n (2 ^ 16)) (tagged o 251 2 n) (cond (nat_lt n (2 ^ 32)) (tagged o 252 4 n) (tagged o 253 8 n)))

-- the zigzag: n ↦ 2n from zero up and n ↦ -2n - 1 below zero (negsuc k is -k - 1, so that -2n - 1 is 2k + 1)
abbrev pub zigzag : ℤ → ℕ
zigzag (pos n) = 2 * n
zigzag (negsuc k) = 2 * k + 1

-- two's complement in w bytes, which is the number modulo 256^w: below zero, -k - 1 goes as 256^w - 1 - k where the width holds it
abbrev pub complement : ℕ → ℤ → ℕ
complement w (pos n) = n % 256 ^ w
complement w (negsuc k) = 256 ^ w - suc (k % 256 ^ w)

-- back from the zigzag: an even n is n / 2, and an odd one is -(n + 1) / 2
abbrev pub from_zigzag : ℕ → ℤ
from_zigzag n = cond (n % 2 == 0) (pos (n / 2)) (negsuc (n / 2))

-- what w bytes with the number n mean in two's complement: n, less 256^w where the highest bit is set (n - 256^w is negsuc (256^w - n - 1))
abbrev pub from_complement : ℕ → ℕ → ℤ
from_complement w n = cond (nat_lt (2 * n) (256 ^ w)) (pos n) (negsuc (256 ^ w - suc n))

-- the signed integer of w bytes that goes as the number n
abbrev pub signed_value : ℕ → IntEncoding → ℕ → ℤ
signed_value w Fixed n = from_complement w n
signed_value w Variable n = from_zigzag n

-- which numbers an unsigned and a signed integer of w bytes hold
abbrev pub unsigned_range : ℕ → ℕ → Bool
unsigned_range w n = nat_lt n (256 ^ w)

abbrev pub signed_range : ℕ → ℤ → Bool
signed_range w (pos n) = nat_lt (2 * n) (256 ^ w)
signed_range w (negsuc k) = nat_lt (2 * k) (256 ^ w)

-- the writing of an unsigned integer of w bytes
abbrev pub unsigned_writing : ℕ → Endianness → IntEncoding → ℕ → List (List ℕ)
unsigned_writing w o Fixed n = bytes o w n ∷ []
unsigned_writing w o Variable n = variable o n

-- the writing of a signed one
abbrev pub signed_writing : ℕ → Endianness → IntEncoding → ℤ → List (List ℕ)
signed_writing w o Fixed z = bytes o w (complement w z) ∷ []
signed_writing w o Variable z = variable o (zigzag z)
