-- How the compound types are read, from the readings of their parts: a tag and then a part, or two parts in a row.
use Rattle.std.specs.Prelude.{ℕ, cond, [], ◌∷◌, Some, None, Ok, Err, Option, Result, ◌==◌}
use Rattle.format.specs.Refusals.{refusal}
use Rattle.format.specs.declared.config.Endianness.{Endianness}
use Rattle.format.specs.declared.config.IntEncoding.{IntEncoding}
use Rattle.format.specs.declared.error.IntegerType.TheVariants.{U32}
use Rattle.readings.specs.Integers.{integer_reading}
use Rattle.readings.specs.Readings.{Reading, giving, refusing, ◌then◌}
use Rattle.readings.specs.Scalars.{byte_reading}
use Rattle.std.specs.declared.ops.Bound.{Bound}
use Rattle.std.specs.declared.ops.Bound.TheVariants.{Included, Excluded, Unbounded}

-- a tag that is none of those there are: UnexpectedVariant (5) with the tag, the lowest and the highest
abbrev pub unknown_tag : {A : Type 0} → ℕ → ℕ → Reading A
unknown_tag max x = refusing (refusal 5 (x ∷ 0 ∷ max ∷ []))

-- an option: a byte, which is 0 for None, or 1 and then the value
abbrev pub option_after : {A : Type 0} → Reading A → ℕ → Reading (Option A)
option_after f x = cond (x == 0) (giving None) (cond (x == 1) (f then (λ v. giving (Some v))) (unknown_tag 1 x))

abbrev pub option_reading : {A : Type 0} → Reading A → Reading (Option A)
option_reading f = byte_reading then option_after f

-- a result: a `u32`, which is 0 and then the Ok value, or 1 and then the Err value
abbrev pub result_after : {A B : Type 0} → Reading A → Reading B → ℕ → Reading (Result A B)
result_after f g x = cond (x == 0) (f then (λ v. giving (Ok v))) (cond (x == 1) (g then (λ w. giving (Err w))) (unknown_tag 1 x))

abbrev pub result_reading : {A B : Type 0} → Endianness → IntEncoding → Reading A → Reading B → Reading (Result A B)
result_reading o i f g = integer_reading U32 o i then result_after f g

-- a bound: a `u32`, which is 0 for Unbounded, or 1 for Included or 2 for Excluded and then the value
abbrev pub bound_after : {A : Type 0} → Reading A → ℕ → Reading (Bound A)
bound_after f x =
    cond (x == 0) (giving Unbounded)
    (cond (x == 1) (f then (λ v. giving (Included v))) (cond (x == 2) (f then (λ v. giving (Excluded v))) (unknown_tag 2 x)))

abbrev pub bound_reading : {A : Type 0} → Endianness → IntEncoding → Reading A → Reading (Bound A)
bound_reading o i f = integer_reading U32 o i then bound_after f

-- two values in a row
abbrev pub pair_reading : {A B : Type 0} → Reading A → Reading B → Reading (A × B)
pair_reading f g = f then (λ a. g then (λ b. giving (a, b)))
