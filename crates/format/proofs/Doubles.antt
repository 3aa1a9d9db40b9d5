-- The number that the fields of 64 bits stand for is the float that `lib.Ieee` reads from those bits.
use Rattle.std.proofs.Common.{◌≡◌, ℕ, zero, suc, ◌+◌, ◌-◌, ◌*◌, ◌/◌, ◌%◌, ◌^◌, ◌<◌, Bool, true, false, cond, not, ◌&&◌, T, eqb, leb, ℤ, pos, negsuc, sym, refl, ap, ◌∙◌, subst, inl, inr, mul_right_comm, arith, pow_pos}
use native.Mathlib.Nat.{eq_of_mul-eq-mul_right}
use lib.Count.{count_trailing_zeros}
use lib.Dec.{eqb-suc-zero}
use lib.IntN.{sub_ℕ}
use lib.Ieee.{nan, inf, binary64, up, down, minus, odd, of_fields, of_bits, nan_bits}
use lib.Ieee.Digits.{odd_val, minus_val}
use Rattle.std.proofs.lemmas.Nat.{field_of}
use Rattle.std.proofs.lemmas.Bool.{cases_lt, lt-ltb, le-ltb, lt-leb, le-leb, eq-eqb, ne_eqb, cond-true, cond-false}
use Rattle.format.specs.Doubles.{Number, not_a_number, infinite, finite, number_of_fields, stands_for, sign, exponent, fraction, negative, SameNumber}

-- ---- finite numbers

-- a / c and b / d are equal fractions where each is k / l
cross : (a b c d k l : ℕ) → 0 < l → a * l ≡ k * c → b * l ≡ k * d → a * d ≡ b * c
cross a b c d k l h p q =
    eq_of_mul-eq-mul_right l h (a * d) (b * c)
    (mul_right_comm a d l ∙ ap (λ (x : ℕ). x * d) p ∙ mul_right_comm k c d ∙ ap (λ (x : ℕ). x * c) (sym q) ∙ mul_right_comm b l c)

-- q * 2^e, where that is q * 2^k / 2^l, is what `odd` writes for the latter
same_finite : (d s q k l : ℕ) (e : ℤ) → q * up e * 2 ^ l ≡ q * 2 ^ k * down e → SameNumber (finite s q e) (odd d (negative s) q k l)
unfolding odd
same_finite d s zero k l e h = (refl, cross (0 * up e) 0 (down e) 1 (0 * 2 ^ k) (2 ^ l) (pow_pos l) h (odd_val d (negative s) zero k l))
same_finite d s (suc q) k l e h =
    let z = count_trailing_zeros d (suc q) in
    let n = suc q / 2 ^ z in
    (refl, cross (suc q * up e) (n * up (minus (k + z) l)) (down e) (down (minus (k + z) l)) (suc q * 2 ^ k) (2 ^ l) (pow_pos l) h (odd_val d (negative s) (suc q) k l))

-- (x + 1) - 1075 is x - 1074
one_less : (x : ℕ) → minus x 1074 ≡ sub_ℕ (suc x) 1075
one_less x = elim (cases_lt (suc x) 1075) [
  | inl h ↦
      cond-false (leb 1074 x) (pos (x - 1074)) (negsuc (1074 - suc x)) (lt-leb 1074 x (omega arith))
      ∙ ap negsuc (omega arith)
      ∙ sym (cond-true _ (negsuc (1075 - suc (suc x))) (pos (suc x - 1075)) (lt-ltb (suc x) 1075 h))
  | inr h ↦
      cond-true (leb 1074 x) (pos (x - 1074)) (negsuc (1074 - suc x)) (le-leb 1074 x (omega arith))
      ∙ ap pos (omega arith)
      ∙ sym (cond-false _ (negsuc (1075 - suc (suc x))) (pos (suc x - 1075)) (le-ltb (suc x) 1075 h))
]

-- ---- the fields

-- three fields
same_fields : (s x t : ℕ) → SameNumber (number_of_fields s x t) (of_fields binary64 (negative s) x t)
unfolding of_fields
same_fields s zero t = same_finite 53 s t 0 1074 (negsuc 1073) refl
same_fields s (suc x) t = rw eqb-suc-zero (go (eqb (suc x) 2047) (eqb t 0))
  where
    go : (p q : Bool) → SameNumber (cond p (cond q (infinite s) not_a_number) (finite s (2 ^ 52 + t) (sub_ℕ (suc x) 1075))) (cond p (cond q (inf (negative s)) nan) (odd 53 (negative s) (2 ^ 52 + t) x 1074))
    go true true = refl
    go true false = refl
    go false q =
        same_finite 53 s (2 ^ 52 + t) x 1074 (sub_ℕ (suc x) 1075)
        (subst (λ (e : ℤ). (2 ^ 52 + t) * up e * 2 ^ 1074 ≡ (2 ^ 52 + t) * 2 ^ x * down e) (one_less x) (minus_val (2 ^ 52 + t) x 1074))

-- the sign's field
same_sign : (b : ℕ) → b < 2 ^ 64 → negative (sign b) ≡ leb (2 ^ 63) b
same_sign b h = elim (cases_lt b (2 ^ 63)) [
  | inl l ↦ ne_eqb (b / 2 ^ 63) 1 (omega arith) ∙ sym (lt-leb (2 ^ 63) b l)
  | inr l ↦ eq-eqb (b / 2 ^ 63) 1 (omega arith) ∙ sym (le-leb (2 ^ 63) b l)
]

-- all 64 bits
pub same_number : (b : ℕ) → b < 2 ^ 64 → SameNumber (stands_for b) (of_bits binary64 b)
unfolding of_bits
same_number b h =
    subst (λ (n : Bool). SameNumber (stands_for b) (of_fields binary64 n (b % 2 ^ 63 / 2 ^ 52) (fraction b))) (same_sign b h)
    (subst (λ (x : ℕ). SameNumber (stands_for b) (of_fields binary64 (negative (sign b)) x (fraction b))) (sym (field_of b 11 52)) (same_fields (sign b) (exponent b) (fraction b)))

-- ---- which bits are no NaN's

-- the test of the two fields that finds a NaN
same_test : (b : ℕ) → nan_bits binary64 b ≡ (eqb (exponent b) 2047 && not (eqb (fraction b) 0))
unfolding nan_bits
same_test b = ap (λ (x : ℕ). eqb x 2047 && not (eqb (fraction b) 0)) (field_of b 11 52)

-- bits that stand for a number pass the test that `f64::from_bits` asks
pub no_nan : (b : ℕ) → (stands_for b ≡ not_a_number → ⊥) → T (not (nan_bits binary64 b))
no_nan b h = rw same_test (go (eqb (exponent b) 2047) (eqb (fraction b) 0) _ h)
  where
    go : (p q : Bool) (n : Number) → (cond p (cond q (infinite (sign b)) not_a_number) n ≡ not_a_number → ⊥) → T (not (p && not q))
    go true true n h = tt
    go true false n h = h refl
    go false q n h = tt
