-- What each refusal tells: its number, and the values that it carries in their order. Every promise about a refused call is made by these definitions.
use Rattle.std.specs.Prelude.{ℕ, List, [], ◌∷◌, Some, None, Ok, Err, Option, Result}
use Rattle.format.specs.declared.error.EncodeError.{EncodeError}
use Rattle.format.specs.declared.error.EncodeError.TheVariants.{UnexpectedEnd}
use Rattle.format.specs.declared.error.DecodeError.{DecodeError}
use Rattle.format.specs.declared.error.DecodeError.TheVariants as fault
use Rattle.format.specs.declared.error.IntegerType.{IntegerType}
use Rattle.format.specs.declared.error.IntegerType.TheVariants.{U16, U32, U64, U128, Usize, I16, I32, I64, I128, Reserved}
use Rattle.format.specs.declared.error.RingError.{RingError}
use Rattle.format.specs.declared.error.RingError.TheVariants.{BadRing}
use Rattle.format.specs.declared.error.ValueError.{ValueError}
use Rattle.format.specs.declared.error.ValueError.TheVariants.{NotScalar, InvalidDuration}

pub record Refusal : Type 0 where
  pub number : ℕ
  pub values : List ℕ

abbrev pub refusal : ℕ → List ℕ → Refusal
refusal n vs = record { number = n; values = vs }

abbrev pub encode_refusal : EncodeError → Refusal
encode_refusal UnexpectedEnd = refusal 1 []

abbrev pub value_refusal : ValueError → Refusal
value_refusal NotScalar = refusal 10 []
value_refusal (InvalidDuration secs nanos) = refusal 9 (secs ∷ nanos ∷ [])

abbrev pub ring_refusal : RingError → Refusal
ring_refusal BadRing = refusal 11 []

-- the integer types in the order in which a fault names them
abbrev pub type_number : IntegerType → ℕ
type_number U16 = 0
type_number U32 = 1
type_number U64 = 2
type_number U128 = 3
type_number Usize = 4
type_number I16 = 5
type_number I32 = 6
type_number I64 = 7
type_number I128 = 8
type_number Reserved = 9

-- a number that may be missing
abbrev pub optional : Option ℕ → List ℕ
optional None = []
optional (Some n) = n ∷ []

abbrev pub decode_refusal : DecodeError → Refusal
decode_refusal (fault.UnexpectedEnd additional) = refusal 2 (additional ∷ [])
decode_refusal fault.LimitExceeded = refusal 3 []
decode_refusal (fault.InvalidIntegerType expected found) = refusal 4 (type_number expected ∷ type_number found ∷ [])
decode_refusal (fault.UnexpectedVariant found min max) = refusal 5 (found ∷ min ∷ max ∷ [])
decode_refusal (fault.Utf8 good bad) = refusal 6 (good ∷ optional bad)
decode_refusal (fault.InvalidCharEncoding a b c d) = refusal 7 (a ∷ b ∷ c ∷ d ∷ [])
decode_refusal (fault.InvalidBooleanValue found) = refusal 8 (found ∷ [])
decode_refusal (fault.InvalidDuration secs nanos) = refusal 9 (secs ∷ nanos ∷ [])

-- An answer: what is given, or a refusal.
pub data Answer (A : Type 0) : Type 0 where
  given : A → Answer A
  refused : Refusal → Answer A

-- What a result says, where f tells the refusals and g what of the value is spoken of.
abbrev pub answer : {A B E : Type 0} → (E → Refusal) → (A → B) → Result A E → Answer B
answer f g (Ok a) = given (g a)
answer f g (Err e) = refused (f e)
