-- How byte strings and text are read: the length as an integer of 8 bytes; as many bytes are claimed, and then they are taken; text is judged.
use Rattle.std.specs.Prelude.{ℕ, List}
use Rattle.format.specs.Texts.{text_verdict}
use Rattle.format.specs.declared.config.Endianness.{Endianness}
use Rattle.format.specs.declared.config.IntEncoding.{IntEncoding}
use Rattle.format.specs.declared.error.IntegerType.TheVariants.{U64}
use Rattle.readings.specs.Integers.{integer_reading}
use Rattle.readings.specs.Readings.{outcome, Reading, claiming, taking, ◌then◌}

-- so many bytes
abbrev pub bytes_reading : ℕ → Reading (List ℕ)
bytes_reading n = claiming n then (λ _. taking n)

-- a byte string
abbrev pub string_reading : Endianness → IntEncoding → Reading (List ℕ)
string_reading o i = integer_reading U64 o i then bytes_reading

-- the bytes themselves if they are text, and else Utf8 (6)
abbrev pub text_judging : List ℕ → Reading (List ℕ)
text_judging bs s = outcome (text_verdict bs) 0 s.count

-- a text
abbrev pub text_reading : Endianness → IntEncoding → Reading (List ℕ)
text_reading o i = string_reading o i then text_judging
