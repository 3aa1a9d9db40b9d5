-- The bytes of a number.
use Rattle.std.specs.Prelude.{ℕ, zero, suc, ◌+◌, ◌*◌, ◌/◌, ◌%◌, List, [], ◌∷◌, reverse}
use Rattle.format.specs.declared.config.Endianness.{Endianness}
use Rattle.format.specs.declared.config.Endianness.TheVariants.{Little, Big}

-- the k lowest bytes of a number, the lowest first
abbrev pub lowest : ℕ → ℕ → List ℕ
lowest zero n = []
lowest (suc k) n = n % 256 ∷ lowest k (n / 256)

-- the k lowest bytes of a number in a byte order
abbrev pub bytes : Endianness → ℕ → ℕ → List ℕ
bytes Little k n = lowest k n
bytes Big k n = reverse (lowest k n)

-- the number whose bytes these are, the lowest first
abbrev pub from_lowest : List ℕ → ℕ
from_lowest [] = 0
from_lowest (b ∷ bs) = b + 256 * from_lowest bs

-- the number whose bytes these are in a byte order
abbrev pub number : Endianness → List ℕ → ℕ
number Little bs = from_lowest bs
number Big bs = from_lowest (reverse bs)
