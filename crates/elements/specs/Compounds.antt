-- What the compound types mean, from the meanings of their parts: a tag and then a part, or two parts in a row.
use Rattle.std.specs.Prelude.{ℕ, ◌+◌, Bool, true, ◌&&◌, List, ◌++◌, Some, None, Ok, Err, Option, Result}
use Rattle.elements.specs.Elements.{ElementMeaning}
use Rattle.elements.specs.Scalars.{byte, unsigned}
use Rattle.format.specs.declared.config.Endianness.{Endianness}
use Rattle.format.specs.declared.config.IntEncoding.{IntEncoding}
use Rattle.std.specs.declared.ops.Bound.{Bound}
use Rattle.std.specs.declared.ops.Bound.TheVariants.{Included, Excluded, Unbounded}

-- an option: byte 0, or byte 1 and then the value; 1 is claimed for the tag
module _ {A : Type 0} (e : ElementMeaning A) where
  abbrev pub option_valid : Option A → Bool
  option_valid None = true
  option_valid (Some v) = e.valid v

  abbrev pub option_writing : Endianness → IntEncoding → Option A → List (List ℕ)
  option_writing o i None = byte.writing o i 0
  option_writing o i (Some v) = byte.writing o i 1 ++ e.writing o i v

  abbrev pub option_claim : Option A → ℕ
  option_claim None = 1
  option_claim (Some v) = 1 + e.claim v

  abbrev pub option : ElementMeaning (Option A)
  option = record { valid = option_valid; writing = option_writing; claim = option_claim }

-- a result: a `u32` 0 and then the Ok value, or 1 and then the Err value; 4 are claimed for the tag
module _ {A B : Type 0} (a : ElementMeaning A) (b : ElementMeaning B) where
  abbrev pub result_valid : Result A B → Bool
  result_valid (Ok x) = a.valid x
  result_valid (Err y) = b.valid y

  abbrev pub result_writing : Endianness → IntEncoding → Result A B → List (List ℕ)
  result_writing o i (Ok x) = (unsigned 4).writing o i 0 ++ a.writing o i x
  result_writing o i (Err y) = (unsigned 4).writing o i 1 ++ b.writing o i y

  abbrev pub result_claim : Result A B → ℕ
  result_claim (Ok x) = 4 + a.claim x
  result_claim (Err y) = 4 + b.claim y

  abbrev pub result : ElementMeaning (Result A B)
  result = record { valid = result_valid; writing = result_writing; claim = result_claim }

-- a bound: a `u32` 0 for Unbounded, or 1 for Included or 2 for Excluded and then the value; 4 are claimed for the tag
module _ {A : Type 0} (e : ElementMeaning A) where
  abbrev pub bound_valid : Bound A → Bool
  bound_valid Unbounded = true
  bound_valid (Included v) = e.valid v
  bound_valid (Excluded v) = e.valid v

  abbrev pub bound_writing : Endianness → IntEncoding → Bound A → List (List ℕ)
  bound_writing o i Unbounded = (unsigned 4).writing o i 0
  bound_writing o i (Included v) = (unsigned 4).writing o i 1 ++ e.writing o i v
  bound_writing o i (Excluded v) = (unsigned 4).writing o i 2 ++ e.writing o i v

  abbrev pub bound_claim : Bound A → ℕ
  bound_claim Unbounded = 4
  bound_claim (Included v) = 4 + e.claim v
  bound_claim (Excluded v) = 4 + e.claim v

  abbrev pub bound : ElementMeaning (Bound A)
  bound = record { valid = bound_valid; writing = bound_writing; claim = bound_claim }

-- a pair: its first and then its second; their claims are added
abbrev pub pair : {A B : Type 0} → ElementMeaning A → ElementMeaning B → ElementMeaning (A × B)
pair a b = record {
  valid = λ v. a.valid v.0 && b.valid v.1;
  writing = λ o i v. a.writing o i v.0 ++ b.writing o i v.1;
  claim = λ v. a.claim v.0 + b.claim v.1;
}
