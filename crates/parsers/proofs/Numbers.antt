-- The number of a few bytes is that of eight bytes, of which the others are 0; and it is below a power of 256.
use Rattle.std.proofs.Common.{◌≡◌, ℕ, zero, suc, ◌+◌, ◌-◌, ◌*◌, ◌^◌, ◌<◌, true, List, [], ◌∷◌, ◌++◌, length, get_or, take, drop, replicate, reverse, refl, ap, ◌∙◌, pow-suc, arith, lt-ltb, append-nil}
use mathlib.Core.List.{reverse_aux}
use Rattle.format.specs.Integers.{unsigned_range}
use Rattle.format.specs.Numbers.{from_lowest, number}
use Rattle.format.specs.declared.config.Endianness.{Endianness}
use Rattle.format.specs.declared.config.Endianness.TheVariants.{Little, Big}
use Rattle.std.proofs.lemmas.List.{get_or-reverse, reverse-append, length-reverse}

abbrev pub zeros : List ℕ
zeros = replicate 8 0

-- bytes that are 0 add nothing behind others
padded : (xs ys : List ℕ) → from_lowest ys ≡ 0 → from_lowest (xs ++ ys) ≡ from_lowest xs
padded [] ys h = h
padded (x ∷ xs) ys h = ap (λ n. x + 256 * n) (padded xs ys h)

zero_end : (n k : ℕ) → from_lowest (drop n (replicate k 0)) ≡ 0
zero_end zero zero = refl
zero_end zero (suc k) = omega (arith, zero_end zero k)
zero_end (suc n) zero = refl
zero_end (suc n) (suc k) = zero_end n k

zero_front : (n k : ℕ) (onto : List ℕ) → from_lowest onto ≡ 0 → from_lowest (reverse_aux (take n (replicate k 0)) onto) ≡ 0
zero_front zero k onto h = h
zero_front (suc n) zero onto h = h
zero_front (suc n) (suc k) onto h = zero_front n k (0 ∷ onto) (omega (arith, h))

-- the bytes, and zeros behind them
pub padded_little : (xs : List ℕ) (n : ℕ) → number Little (xs ++ drop n zeros) ≡ number Little xs
padded_little xs n = padded xs (drop n zeros) (zero_end n 8)

-- zeros, and the bytes behind them
pub padded_big : (xs : List ℕ) (n : ℕ) → number Big (take n zeros ++ (xs ++ [])) ≡ number Big xs
padded_big xs n =
    ap from_lowest (reverse-append (take n zeros) (xs ++ []) ∙ ap (λ ys. reverse ys ++ reverse (take n zeros)) (append-nil xs))
    ∙ padded (reverse xs) (reverse (take n zeros)) (zero_front n 8 [] refl)

below_power : (xs : List ℕ) → ((k : ℕ) → k < length xs → get_or xs k 0 < 256) → from_lowest xs < 256 ^ length xs
below_power [] h = omega arith
below_power (x ∷ xs) h = omega (arith, pow-suc 256 (length xs), h 0 (omega arith), below_power xs (λ k l. h (suc k) (omega (arith, l))))

-- the number of some bytes fits as many bytes
pub number_fits : (o : Endianness) (xs : List ℕ) → ((k : ℕ) → k < length xs → get_or xs k 0 < 256) → unsigned_range (length xs) (number o xs) ≡ true
number_fits Little xs h = lt-ltb (from_lowest xs) (256 ^ length xs) (below_power xs h)
number_fits Big xs h =
    let same = length-reverse xs in
    let l = below_power (reverse xs) (λ k l. omega (arith, get_or-reverse xs k 0 (omega (arith, l, same)), h (length xs - 1 - k) (omega (arith, l, same)))) in
    lt-ltb (from_lowest (reverse xs)) (256 ^ length xs) (omega (arith, l, ap (λ n. 256 ^ n) same))
