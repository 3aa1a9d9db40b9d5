-- Which number the 64 bits of a double stand for, by IEEE 754-2019, section 3.4, for its format binary64. The double itself means its bits and not this number.
use Rattle.std.specs.Prelude.{◌≡◌, ℕ, ◌+◌, ◌*◌, ◌/◌, ◌%◌, ◌^◌, Bool, cond, ℤ, pos, negsuc, ◌-ℤ◌, Some, None, Option, ◌==◌, ◌≢◌, Float}
use Rattle.std.specs.Float.{nan, inf, fin}
use Rattle.std.specs.Float.Ieee.{up, down}

-- the field of the sign: the highest bit
abbrev pub sign : ℕ → ℕ
sign b = b / 2 ^ 63

-- the field of the exponent: the next 11 bits
abbrev pub exponent : ℕ → ℕ
exponent b = b / 2 ^ 52 % 2 ^ 11

-- the field of the fraction: the 52 lowest bits
abbrev pub fraction : ℕ → ℕ
fraction b = b % 2 ^ 52

-- What bits stand for: `infinite s` is (-1)^s times infinity, and `finite s m e` is (-1)^s * m * 2^e, where an m of 0 is a zero with its sign.
pub data Number : Type 0 where
  not_a_number : Number
  infinite : ℕ → Number
  finite : ℕ → ℕ → ℤ → Number

-- what the fields s of the sign, x of the exponent and t of the fraction stand for
abbrev pub number_of_fields : ℕ → ℕ → ℕ → Number
number_of_fields s x t =
    -- x is 2047: infinity where t is 0, and else no number
    cond (x == 2047) (cond (t == 0) (infinite s) not_a_number)
    -- x is 0: (-1)^s * t * 2^(-1074), which is a zero where t is 0
    (cond (x == 0) (finite s t (negsuc 1073))
    -- x is between: (-1)^s * (2^52 + t) * 2^(x - 1075), which is the standard's (1 + t / 2^52) * 2^(x - 1023)
    (finite s (2 ^ 52 + t) (pos x -ℤ pos 1075)))

-- what 64 bits stand for
abbrev pub stands_for : ℕ → Number
stands_for b = number_of_fields (sign b) (exponent b) (fraction b)

-- whether the field of a sign is set
abbrev pub negative : ℕ → Bool
negative s = s == 1

-- That x, a float of `lib.Ieee`, which is what an `f64` means, is this number. 2^e is the fraction up e / down e, so that the last line has m * 2^e = n * 2^d.
abbrev pub SameNumber : Number → Float → Type 0
SameNumber not_a_number x = x ≡ nan
SameNumber (infinite s) x = x ≡ inf (negative s)
SameNumber (finite s m e) nan = ⊥
SameNumber (finite s m e) (inf t) = ⊥
SameNumber (finite s m e) (fin t n d) = (t ≡ negative s) × (m * up e * down d ≡ n * up d * down e)

-- the `f64` of 64 bits: none exactly where they stand for no number, and else one that is their number, and so no NaN
abbrev pub NumberOf : ℕ → Option Float → Type 0
NumberOf b None = stands_for b ≡ not_a_number
NumberOf b (Some x) = (stands_for b ≢ not_a_number) × SameNumber (stands_for b) x
