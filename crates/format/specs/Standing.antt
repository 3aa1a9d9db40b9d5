-- Which bytes stand for which value under a byte order and an integer encoding, by bincode's specification, RFC 3629 and IEEE 754. Nothing is said here of how they are read or written, and one value may have several forms.
use Rattle.std.specs.Prelude.{◌≡◌, ℕ, ◌^◌, ◌<◌, ◌≤◌, Bool, true, false, List, [], ◌∷◌, ◌++◌, length, ℤ, Some, None, Ok, Err, Option, Result}
use Rattle.format.specs.Durations.{carried}
use Rattle.format.specs.Integers.{signed_value}
use Rattle.format.specs.Numbers.{number}
use Rattle.format.specs.Texts.{Text}
use Rattle.format.specs.Utf8.{utf8}
use Rattle.format.specs.declared.config.Endianness.{Endianness}
use Rattle.format.specs.declared.config.IntEncoding.{IntEncoding}
use Rattle.format.specs.declared.config.IntEncoding.TheVariants.{Fixed, Variable}
use Rattle.format.specs.declared.double.F64.{F64}
use Rattle.format.specs.declared.duration.Duration.{Duration}
use Rattle.format.specs.declared.scalar.Char.{Char}
use Rattle.std.specs.declared.ops.Bound.{Bound}
use Rattle.std.specs.declared.ops.Bound.TheVariants.{Included, Excluded, Unbounded}

-- the tags, and how many bytes each says to follow
pub data Tagged : ℕ → ℕ → Type 0 where
  two : Tagged 251 2
  four : Tagged 252 4
  eight : Tagged 253 8

-- An unsigned integer of w bytes. Fixed: its w bytes in the byte order. Variable: a byte below 251 is the number itself; or a tag, and then the number in as
-- many bytes as the tag says, which are no more than the type has. A longer form than needed stands for its number too.
pub data UnsignedStands (w : ℕ) (o : Endianness) : IntEncoding → List ℕ → ℕ → Type 0 where
  fixed : {bs : List ℕ} {n : ℕ} → length bs ≡ w → number o bs ≡ n → UnsignedStands w o Fixed bs n
  single : {n : ℕ} → n < 251 → UnsignedStands w o Variable (n ∷ []) n
  tagged : {tag k : ℕ} {bs : List ℕ} {n : ℕ} → Tagged tag k → k ≤ w → length bs ≡ k → number o bs ≡ n → UnsignedStands w o Variable (tag ∷ bs) n

-- a signed integer of w bytes: the bytes stand for a number, which is turned back by two's complement (Fixed) or by the zigzag (Variable)
pub record SignedStands (w : ℕ) (o : Endianness) (i : IntEncoding) (bs : List ℕ) (z : ℤ) : Type 0 where
  pub goes_as : ℕ
  pub stands : UnsignedStands w o i bs goes_as
  pub turned : signed_value w i goes_as ≡ z

-- a byte is itself
abbrev pub ByteStands : List ℕ → ℕ → Type 0
ByteStands bs n = bs ≡ n ∷ []

-- false is the byte 0, and true the byte 1
pub data TruthStands : List ℕ → Bool → Type 0 where
  falsehood : TruthStands (0 ∷ []) false
  truth : TruthStands (1 ∷ []) true

-- a double: 8 bytes that are its bits in the byte order
pub record DoubleStands (o : Endianness) (bs : List ℕ) (d : F64) : Type 0 where
  pub eight : length bs ≡ 8
  pub bits : number o bs ≡ d.bits

-- a character: its UTF-8 form
abbrev pub CharStands : List ℕ → Char → Type 0
CharStands bs c = bs ≡ utf8 c.code

-- a duration: seconds as an integer of 8 bytes and nanoseconds as one of 4, whole seconds carried out of the nanoseconds, where the seconds then are a number of 64 bits
pub record DurationStands (o : Endianness) (i : IntEncoding) (bs : List ℕ) (d : Duration) : Type 0 where
  pub first : List ℕ
  pub second : List ℕ
  pub secs : ℕ
  pub nanos : ℕ
  pub in_a_row : first ++ second ≡ bs
  pub seconds : UnsignedStands 8 o i first secs
  pub nanoseconds : UnsignedStands 4 o i second nanos
  pub value : carried secs nanos ≡ d
  pub fits : d.secs < 2 ^ 64

-- a byte string: its length as an integer of 8 bytes, and then its bytes
pub record StringStands (o : Endianness) (i : IntEncoding) (bs v : List ℕ) : Type 0 where
  pub front : List ℕ
  pub in_a_row : front ++ v ≡ bs
  pub counted : UnsignedStands 8 o i front (length v)

-- a text: a byte string whose bytes are text
pub record TextStands (o : Endianness) (i : IntEncoding) (bs v : List ℕ) : Type 0 where
  pub string : StringStands o i bs v
  pub text : Text v

-- The compound types, where S and U say which bytes stand for which value of a part.

-- an option: the byte 0 for None, or the byte 1 and then the value
pub data OptionStands {A : Type 0} (S : List ℕ → A → Type 0) : List ℕ → Option A → Type 0 where
  none : OptionStands S (0 ∷ []) None
  some : {x : List ℕ} {v : A} → S x v → OptionStands S (1 ∷ x) (Some v)

-- a result: an integer of 4 bytes, which is 0 and then the Ok value, or 1 and then the Err value
pub data ResultStands {A B : Type 0} (o : Endianness) (i : IntEncoding) (S : List ℕ → A → Type 0) (U : List ℕ → B → Type 0) : List ℕ → Result A B → Type 0 where
  ok : {x y : List ℕ} {v : A} → UnsignedStands 4 o i x 0 → S y v → ResultStands o i S U (x ++ y) (Ok v)
  err : {x y : List ℕ} {w : B} → UnsignedStands 4 o i x 1 → U y w → ResultStands o i S U (x ++ y) (Err w)

-- a bound: an integer of 4 bytes, which is 0 for Unbounded, or 1 for Included or 2 for Excluded and then the value
pub data BoundStands {A : Type 0} (o : Endianness) (i : IntEncoding) (S : List ℕ → A → Type 0) : List ℕ → Bound A → Type 0 where
  unbounded : {x : List ℕ} → UnsignedStands 4 o i x 0 → BoundStands o i S x Unbounded
  included : {x y : List ℕ} {v : A} → UnsignedStands 4 o i x 1 → S y v → BoundStands o i S (x ++ y) (Included v)
  excluded : {x y : List ℕ} {v : A} → UnsignedStands 4 o i x 2 → S y v → BoundStands o i S (x ++ y) (Excluded v)

-- two values in a row
pub data PairStands {A B : Type 0} (S : List ℕ → A → Type 0) (U : List ℕ → B → Type 0) : List ℕ → A × B → Type 0 where
  pair : {x y : List ℕ} {v : A} {w : B} → S x v → U y w → PairStands S U (x ++ y) (v, w)
