-- A signed integer and the number that it goes as.
use Rattle.std.proofs.Common.{◌≡◌, ℕ, zero, suc, ◌+◌, ◌-◌, ◌*◌, ◌%◌, ◌^◌, ◌<◌, ◌≤◌, true, eqb, ltb, ℤ, pos, negsuc, ap, ◌∙◌, mod-eq_of_lt, pow-suc, arith}
use Rattle.format.specs.Integers.{zigzag, complement, from_zigzag, from_complement, signed_range, signed_value}
use Rattle.format.specs.declared.config.IntEncoding.{IntEncoding}
use Rattle.format.specs.declared.config.IntEncoding.TheVariants.{Fixed, Variable}
use Rattle.std.proofs.lemmas.Bool.{ltb-true, le-ltb, eq-eqb, ne_eqb, cond-true, cond-false}

-- the number that a signed integer of w bytes goes as
abbrev pub going : ℕ → IntEncoding → ℤ → ℕ
going w Fixed z = complement w z
going w Variable z = zigzag z

-- the zigzag is turned back
pub from_zigzag_zigzag : (z : ℤ) → from_zigzag (zigzag z) ≡ z
from_zigzag_zigzag (pos n) = cond-true (eqb (2 * n % 2) 0) _ _ (eq-eqb (2 * n % 2) 0 (omega arith)) ∙ ap pos (omega arith)
from_zigzag_zigzag (negsuc k) = cond-false (eqb ((2 * k + 1) % 2) 0) _ _ (ne_eqb ((2 * k + 1) % 2) 0 (λ e. omega arith)) ∙ ap negsuc (omega arith)

-- one byte and more hold an even count of numbers
even : (w : ℕ) → 1 ≤ w → (h : ℕ) × (256 ^ w ≡ 2 * h)
even zero l = absurd (omega arith)
even (suc k) l = (128 * 256 ^ k, omega (arith, pow-suc 256 k))

-- two's complement is turned back
pub from_complement_complement : (w : ℕ) (z : ℤ) → 1 ≤ w → signed_range w z ≡ true → from_complement w (complement w z) ≡ z
from_complement_complement w (pos n) l r =
    let below : 2 * n < 256 ^ w = ltb-true (2 * n) (256 ^ w) r in
    let same : n % 256 ^ w ≡ n = mod-eq_of_lt (omega arith) in
    ap (from_complement w) same ∙ cond-true (ltb (2 * n) (256 ^ w)) _ _ r
from_complement_complement w (negsuc k) l r =
    let h = even w l in
    let two = h.1 in
    let below : 2 * k < 256 ^ w = ltb-true (2 * k) (256 ^ w) r in
    let same : k % 256 ^ w ≡ k = mod-eq_of_lt (omega arith) in
    let high : 256 ^ w ≤ 2 * (256 ^ w - suc k) = omega arith in
    ap (λ j. from_complement w (256 ^ w - suc j)) same
    ∙ cond-false (ltb (2 * (256 ^ w - suc k)) (256 ^ w)) _ _ (le-ltb (2 * (256 ^ w - suc k)) (256 ^ w) high)
    ∙ ap negsuc (omega arith)

-- a signed integer in range goes as a number of w bytes
pub going_fits : (w : ℕ) (i : IntEncoding) (z : ℤ) → 1 ≤ w → signed_range w z ≡ true → going w i z < 256 ^ w
going_fits w Fixed (pos n) l r = let below : 2 * n < 256 ^ w = ltb-true (2 * n) (256 ^ w) r in omega (arith, mod-eq_of_lt {n = n} {m = 256 ^ w} (omega arith))
going_fits w Fixed (negsuc k) l r = let below : 2 * k < 256 ^ w = ltb-true (2 * k) (256 ^ w) r in omega arith
going_fits w Variable (pos n) l r = ltb-true (2 * n) (256 ^ w) r
going_fits w Variable (negsuc k) l r =
    let two = (even w l).1 in
    let below : 2 * k < 256 ^ w = ltb-true (2 * k) (256 ^ w) r in
    omega arith

-- and that number means it
pub going_back : (w : ℕ) (i : IntEncoding) (z : ℤ) → 1 ≤ w → signed_range w z ≡ true → signed_value w i (going w i z) ≡ z
going_back w Fixed z l r = from_complement_complement w z l r
going_back w Variable z l r = from_zigzag_zigzag z
