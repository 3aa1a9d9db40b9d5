-- How the scalars are read: each claims, then reads, then judges what it read.
use Rattle.std.specs.Prelude.{ℕ, ◌+◌, ◌/◌, ◌^◌, Bool, true, false, cond, [], ◌∷◌, ℤ, ◌==◌, nat_lt, slice_index}
use Rattle.format.specs.Durations.{carried}
use Rattle.format.specs.Integers.{signed_value}
use Rattle.format.specs.Refusals.{refusal}
use Rattle.format.specs.declared.config.Endianness.{Endianness}
use Rattle.format.specs.declared.config.IntEncoding.{IntEncoding}
use Rattle.format.specs.declared.double.F64.{F64}
use Rattle.format.specs.declared.duration.Duration.{Duration}
use Rattle.format.specs.declared.error.IntegerType.{IntegerType}
use Rattle.format.specs.declared.error.IntegerType.TheVariants.{U32, U64}
use Rattle.readings.specs.Integers.{type_width, number_reading, integer_reading}
use Rattle.readings.specs.Readings.{Reading, giving, refusing, claiming, taking, ◌then◌}

-- the next byte, and a byte in both encodings
abbrev pub next_byte : Reading ℕ
next_byte = taking 1 then (λ bs. giving (slice_index bs 0))

abbrev pub byte_reading : Reading ℕ
byte_reading = claiming 1 then (λ _. next_byte)

-- a truth value: a byte, which is 0 or 1, or else InvalidBooleanValue (8)
abbrev pub truth_of : ℕ → Reading Bool
truth_of b = cond (b == 0) (giving false) (cond (b == 1) (giving true) (refusing (refusal 8 (b ∷ []))))

abbrev pub truth_reading : Reading Bool
truth_reading = byte_reading then truth_of

-- a signed integer: the number that it goes as, turned back
abbrev pub signed_reading : IntegerType → Endianness → IntEncoding → Reading ℤ
signed_reading t o i = integer_reading t o i then (λ n. giving (signed_value (type_width t) i n))

-- a double: its 8 bytes, in both encodings
abbrev pub with_bits : ℕ → F64
with_bits n = record { bits = n }

abbrev pub next_double : Endianness → Reading F64
next_double o = number_reading o 8 then (λ n. giving (with_bits n))

abbrev pub double_reading : Endianness → Reading F64
double_reading o = claiming 8 then (λ _. next_double o)

-- a duration: its seconds and then its nanoseconds, carried; InvalidDuration (9) with both as they were read where the seconds pass 2^64 - 1
abbrev pub duration_of : ℕ → ℕ → Reading Duration
duration_of secs nanos = cond (nat_lt (secs + nanos / 1000000000) (2 ^ 64)) (giving (carried secs nanos)) (refusing (refusal 9 (secs ∷ nanos ∷ [])))

abbrev pub duration_after : Endianness → IntEncoding → ℕ → Reading Duration
duration_after o i secs = integer_reading U32 o i then (λ nanos. duration_of secs nanos)

abbrev pub duration_reading : Endianness → IntEncoding → Reading Duration
duration_reading o i = integer_reading U64 o i then (λ secs. duration_after o i secs)
