-- A number that fits some bytes fits more of them.
use Rattle.std.proofs.Common.{◌≡◌, ℕ, ◌^◌, ◌≤◌, true, Ok, Err, Result, arith, ltb-true, lt-ltb}
use native.Mathlib.Nat.{pow-le-pow_right}
use Rattle.format.specs.Integers.{unsigned_range}
use Rattle.format.specs.declared.error.DecodeError.{DecodeError}
use Rattle.interfaces.specs.Decodes.{Passes}

pub number_wider : (k w : ℕ) → k ≤ w → (n : ℕ) → unsigned_range k n ≡ true → unsigned_range w n ≡ true
number_wider k w h n e = lt-ltb n (256 ^ w) (omega (arith, ltb-true n (256 ^ k) e, pow-le-pow_right {n = 256} (omega arith) h))

pub range_wider : (k w : ℕ) → k ≤ w → (r : Result ℕ DecodeError) → Passes (unsigned_range k) r → Passes (unsigned_range w) r
range_wider k w h (Ok n) e = number_wider k w h n e
range_wider k w h (Err x) e = tt
