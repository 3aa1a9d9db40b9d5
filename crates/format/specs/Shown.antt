-- What a refusal is printed as: its name, its number, and the values that it carries behind their names.
use Rattle.std.specs.Prelude.{ℕ, List, [], ◌++◌, Some, None, Option, codes, decimal}
use Rattle.format.specs.Refusals.{Refusal, encode_refusal, value_refusal, decode_refusal, ring_refusal}
use Rattle.format.specs.declared.error.EncodeError.{EncodeError}
use Rattle.format.specs.declared.error.EncodeError.TheVariants.{UnexpectedEnd}
use Rattle.format.specs.declared.error.DecodeError.{DecodeError}
use Rattle.format.specs.declared.error.DecodeError.TheVariants as fault
use Rattle.format.specs.declared.error.IntegerType.{IntegerType}
use Rattle.format.specs.declared.error.IntegerType.TheVariants.{U16, U32, U64, U128, Usize, I16, I32, I64, I128, Reserved}
use Rattle.format.specs.declared.error.RingError.{RingError}
use Rattle.format.specs.declared.error.RingError.TheVariants.{BadRing}
use Rattle.format.specs.declared.error.ValueError.{ValueError}
use Rattle.format.specs.declared.error.ValueError.TheVariants.{NotScalar, InvalidDuration}

-- a name, the number of the refusal, and what follows
abbrev pub titled : List ℕ → Refusal → List ℕ → List ℕ
titled name r rest = name ++ (codes " (" ++ (decimal r.number ++ (codes ")" ++ rest)))

abbrev pub type_shown : IntegerType → List ℕ
type_shown U16 = codes "u16"
type_shown U32 = codes "u32"
type_shown U64 = codes "u64"
type_shown U128 = codes "u128"
type_shown Usize = codes "usize"
type_shown I16 = codes "i16"
type_shown I32 = codes "i32"
type_shown I64 = codes "i64"
type_shown I128 = codes "i128"
type_shown Reserved = codes "reserved"

abbrev pub encode_shown : EncodeError → List ℕ
encode_shown UnexpectedEnd = titled (codes "UnexpectedEnd") (encode_refusal UnexpectedEnd) []

abbrev pub ring_shown : RingError → List ℕ
ring_shown BadRing = titled (codes "BadRing") (ring_refusal BadRing) []

-- the seconds and the nanoseconds of a duration that is not to be had
abbrev pub duration_shown : ℕ → ℕ → List ℕ
duration_shown secs nanos = codes ": secs " ++ (decimal secs ++ (codes ", nanos " ++ decimal nanos))

abbrev pub value_shown : ValueError → List ℕ
value_shown NotScalar = titled (codes "NotScalar") (value_refusal NotScalar) []
value_shown (InvalidDuration secs nanos) = titled (codes "InvalidDuration") (value_refusal (InvalidDuration secs nanos)) (duration_shown secs nanos)

-- the length of the bad bytes, if it is told
abbrev pub bad_shown : Option ℕ → List ℕ
bad_shown None = []
bad_shown (Some n) = codes ", error_len " ++ decimal n

abbrev pub decode_shown : DecodeError → List ℕ
decode_shown (fault.UnexpectedEnd additional) = titled (codes "UnexpectedEnd") (decode_refusal (fault.UnexpectedEnd additional)) (codes ": additional " ++ decimal additional)
decode_shown fault.LimitExceeded = titled (codes "LimitExceeded") (decode_refusal fault.LimitExceeded) []
decode_shown (fault.InvalidIntegerType expected found) =
    titled (codes "InvalidIntegerType") (decode_refusal (fault.InvalidIntegerType expected found)) (codes ": expected " ++ (type_shown expected ++ (codes ", found " ++ type_shown found)))
decode_shown (fault.UnexpectedVariant found min max) =
    titled (codes "UnexpectedVariant") (decode_refusal (fault.UnexpectedVariant found min max)) (codes ": found " ++ (decimal found ++ (codes ", min " ++ (decimal min ++ (codes ", max " ++ decimal max)))))
decode_shown (fault.Utf8 good bad) = titled (codes "Utf8") (decode_refusal (fault.Utf8 good bad)) (codes ": valid_up_to " ++ (decimal good ++ bad_shown bad))
decode_shown (fault.InvalidCharEncoding a b c d) =
    titled (codes "InvalidCharEncoding") (decode_refusal (fault.InvalidCharEncoding a b c d))
    (codes ": bytes " ++ (decimal a ++ (codes " " ++ (decimal b ++ (codes " " ++ (decimal c ++ (codes " " ++ decimal d)))))))
decode_shown (fault.InvalidBooleanValue found) = titled (codes "InvalidBooleanValue") (decode_refusal (fault.InvalidBooleanValue found)) (codes ": found " ++ decimal found)
decode_shown (fault.InvalidDuration secs nanos) = titled (codes "InvalidDuration") (decode_refusal (fault.InvalidDuration secs nanos)) (duration_shown secs nanos)
