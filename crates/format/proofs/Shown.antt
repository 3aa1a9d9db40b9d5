-- The texts of refusals, written out as the code writes them.
use Rattle.std.proofs.Common.{◌≡◌, ℕ, ◌++◌, Some, None, Option, codes, decimal, refl, lit<, rules}
use Rattle.std.specs.Fmt.{digits}
use Rattle.format.specs.Shown.{type_shown, encode_shown, ring_shown, value_shown, decode_shown}
use Rattle.format.specs.declared.error.DecodeError.{DecodeError}
use Rattle.format.specs.declared.error.DecodeError.TheVariants as fault
use Rattle.format.specs.declared.error.EncodeError.{EncodeError}
use Rattle.format.specs.declared.error.EncodeError.TheVariants.{UnexpectedEnd}
use Rattle.format.specs.declared.error.IntegerType.{IntegerType}
use Rattle.format.specs.declared.error.RingError.{RingError}
use Rattle.format.specs.declared.error.RingError.TheVariants.{BadRing}
use Rattle.format.specs.declared.error.ValueError.{ValueError}
use Rattle.format.specs.declared.error.ValueError.TheVariants.{NotScalar, InvalidDuration}
use Rattle.std.proofs.lemmas.Fmt.{decimal_digit}

ten : decimal 10 ≡ codes "10"
unfolding digits
ten = refl

eleven : decimal 11 ≡ codes "11"
unfolding digits
eleven = refl

pub encode_text : (e : EncodeError) → encode_shown e ≡ codes "UnexpectedEnd (1)"
encode_text UnexpectedEnd = rw (decimal_digit 1 (lit< tt)) refl

pub ring_text : (e : RingError) → ring_shown e ≡ codes "BadRing (11)"
ring_text BadRing = rw eleven refl

pub not_scalar_text : (e : ValueError) → e ≡ NotScalar → value_shown e ≡ codes "NotScalar (10)"
not_scalar_text e h = rw h (rw ten refl)

pub no_duration_text : (e : ValueError) (secs nanos : ℕ) → e ≡ InvalidDuration secs nanos → value_shown e ≡ codes "InvalidDuration (9): secs " ++ (decimal secs ++ (codes ", nanos " ++ decimal nanos))
no_duration_text e secs nanos h = rw h (rw (decimal_digit 9 (lit< tt)) refl)

pub ruleset value_texts = (not_scalar_text, no_duration_text)

pub decode_end_text : (e : DecodeError) (additional : ℕ) → e ≡ fault.UnexpectedEnd additional → decode_shown e ≡ codes "UnexpectedEnd (2): additional " ++ decimal additional
decode_end_text e additional h = rw h (rw (decimal_digit 2 (lit< tt)) refl)

pub limit_text : (e : DecodeError) → e ≡ fault.LimitExceeded → decode_shown e ≡ codes "LimitExceeded (3)"
limit_text e h = rw h (rw (decimal_digit 3 (lit< tt)) refl)

pub type_text : (e : DecodeError) (expected found : IntegerType) → e ≡ fault.InvalidIntegerType expected found → decode_shown e ≡ codes "InvalidIntegerType (4): expected " ++ (type_shown expected ++ (codes ", found " ++ type_shown found))
type_text e expected found h = rw h (rw (decimal_digit 4 (lit< tt)) refl)

pub variant_text : (e : DecodeError) (found min max : ℕ) → e ≡ fault.UnexpectedVariant found min max → decode_shown e ≡ codes "UnexpectedVariant (5): found " ++ (decimal found ++ (codes ", min " ++ (decimal min ++ (codes ", max " ++ decimal max))))
variant_text e found min max h = rw h (rw (decimal_digit 5 (lit< tt)) refl)

pub utf8_text : (e : DecodeError) (good : ℕ) → e ≡ fault.Utf8 good None → decode_shown e ≡ codes "Utf8 (6): valid_up_to " ++ decimal good
utf8_text e good h = rw h (rw (decimal_digit 6 (lit< tt)) (search rules))

pub utf8_text_bad : (e : DecodeError) (good n : ℕ) (bad : Option ℕ) → e ≡ fault.Utf8 good bad → bad ≡ Some n → decode_shown e ≡ codes "Utf8 (6): valid_up_to " ++ (decimal good ++ (codes ", error_len " ++ decimal n))
utf8_text_bad e good n bad h k = rw h (rw k (rw (decimal_digit 6 (lit< tt)) refl))

pub char_text : (e : DecodeError) (a b c d : ℕ) → e ≡ fault.InvalidCharEncoding a b c d → decode_shown e ≡ codes "InvalidCharEncoding (7): bytes " ++ (decimal a ++ (codes " " ++ (decimal b ++ (codes " " ++ (decimal c ++ (codes " " ++ decimal d))))))
char_text e a b c d h = rw h (rw (decimal_digit 7 (lit< tt)) refl)

pub truth_text : (e : DecodeError) (found : ℕ) → e ≡ fault.InvalidBooleanValue found → decode_shown e ≡ codes "InvalidBooleanValue (8): found " ++ decimal found
truth_text e found h = rw h (rw (decimal_digit 8 (lit< tt)) refl)

pub duration_text : (e : DecodeError) (secs nanos : ℕ) → e ≡ fault.InvalidDuration secs nanos → decode_shown e ≡ codes "InvalidDuration (9): secs " ++ (decimal secs ++ (codes ", nanos " ++ decimal nanos))
duration_text e secs nanos h = rw h (rw (decimal_digit 9 (lit< tt)) refl)

pub ruleset decode_texts = (decode_end_text, limit_text, type_text, variant_text, utf8_text, utf8_text_bad, char_text, truth_text, duration_text)
