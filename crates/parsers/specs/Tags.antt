-- What a tag says, as the code has it.
use Rattle.std.specs.Prelude.{◌≡◌, ℕ, ◌+◌, true, cond, List, [], ◌∷◌, take, Some, None, Ok, Err, Option, Result, ◌==◌, nat_lt}
use Rattle.format.specs.Integers.{unsigned_range}
use Rattle.format.specs.Numbers.{number}
use Rattle.format.specs.declared.config.Endianness.{Endianness}
use Rattle.format.specs.declared.error.IntegerType.{IntegerType}
use Rattle.format.specs.declared.error.IntegerType.TheVariants.{Reserved}
use Rattle.primitives.specs.Widths.{size}
use Rattle.primitives.specs.declared.varint.Width.{Width}
use Rattle.primitives.specs.declared.varint.Width.TheVariants.{Two, Four, Eight}
use Rattle.readings.specs.Integers.{type_width, is_wide, found}

-- the width of what follows a tag
abbrev pub following_width : ℕ → Width
following_width tag = cond (tag == 251) Two (cond (tag == 252) Four Eight)

-- so many bytes follow, or none where the tag is a number itself; or the tag is too wide for the type, and stands for another
abbrev pub tag_kind : IntegerType → ℕ → Result (Option Width) IntegerType
tag_kind t tag = cond (is_wide t tag) (Err (found t tag)) (cond (nat_lt tag 251) (Ok None) (Ok (Some (following_width tag))))

-- what stands at the front of some bytes: the tag's own number, or the number that follows it, with how many bytes that takes; or a tag that is too wide
abbrev pub seen_by : Endianness → ℕ → List ℕ → Result (Option Width) IntegerType → Result (ℕ × ℕ) IntegerType
seen_by o tag rest (Ok None) = Ok (tag, 1)
seen_by o tag rest (Ok (Some w)) = Ok (number o (take (size w) rest), 1 + size w)
seen_by o tag rest (Err f) = Err f

abbrev pub seen_in : IntegerType → Endianness → List ℕ → Result (ℕ × ℕ) IntegerType
seen_in t o [] = Err Reserved
seen_in t o (tag ∷ rest) = seen_by o tag rest (tag_kind t tag)

-- a number that was parsed fits the type that was asked for
abbrev pub SeenRange : IntegerType → Result (ℕ × ℕ) IntegerType → Type 0
SeenRange t (Ok seen) = unsigned_range (type_width t) seen.0 ≡ true
SeenRange t (Err f) = Unit {0}
