-- A number and its bytes.
use Rattle.std.proofs.Common.{◌≡◌, ℕ, zero, suc, ◌/◌, ◌^◌, ◌<◌, length, refl, ap, ◌∙◌, pow-suc, arith}
use Rattle.format.specs.Numbers.{lowest, bytes, from_lowest, number}
use Rattle.format.specs.declared.config.Endianness.{Endianness}
use Rattle.format.specs.declared.config.Endianness.TheVariants.{Little, Big}
use Rattle.std.proofs.lemmas.List.{reverse-reverse, length-reverse}

pub length_lowest : (k n : ℕ) → length (lowest k n) ≡ k
length_lowest zero n = refl
length_lowest (suc k) n = ap suc (length_lowest k (n / 256))

pub length_bytes : (o : Endianness) (k n : ℕ) → length (bytes o k n) ≡ k
length_bytes Little k n = length_lowest k n
length_bytes Big k n = length-reverse (lowest k n) ∙ length_lowest k n

from_lowest_of : (k n : ℕ) → n < 256 ^ k → from_lowest (lowest k n) ≡ n
from_lowest_of zero n h = omega arith
from_lowest_of (suc k) n h =
    let q : n / 256 < 256 ^ k = omega (arith, pow-suc 256 k) in
    let e = from_lowest_of k (n / 256) q in
    omega arith

-- a number that fits k bytes is the number of its k bytes
pub number_bytes : (o : Endianness) (k n : ℕ) → n < 256 ^ k → number o (bytes o k n) ≡ n
number_bytes Little k n h = from_lowest_of k n h
number_bytes Big k n h = ap from_lowest (reverse-reverse (lowest k n)) ∙ from_lowest_of k n h
