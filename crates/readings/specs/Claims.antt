-- Claims: what a decoder counts before it reads. The count is opened here and in `proofs/Claims.antt` alone.
use Rattle.std.specs.Prelude.{◌≡◌, ℕ, ◌+◌, ◌^◌, min, Bool, true, cond, ◌&&◌, Some, None, Option, nat_le, nat_lt}

-- whether a claim of n is granted at a count of c: always without a limit; under one, if the count neither passes 2^64 - 1 nor the limit
abbrev pub judged : Option ℕ → ℕ → ℕ → Bool
judged None c n = true
judged (Some l) c n = nat_lt (c + n) (2 ^ 64) && nat_le (c + n) l

-- the count after it: without a limit nothing is counted; under one, a claim that would take the count past 2^64 - 1 is not
abbrev pub after : Option ℕ → ℕ → ℕ → ℕ
after None c n = c
after (Some l) c n = cond (nat_lt (c + n) (2 ^ 64)) (c + n) c

-- a claim of n is granted
abbrev pub Granted : Option ℕ → ℕ → ℕ → Type 0
Granted l c n = judged l c n ≡ true

-- the smaller of the count and the limit
abbrev pub capped : ℕ → ℕ → ℕ
capped l c = min c l
