-- How integers are read, by bincode's specification; the Rust settles what a refused tag names and leaves.
use Rattle.std.specs.Prelude.{ℕ, ◌+◌, Bool, cond, ◌==◌, nat_lt, slice_index}
use Rattle.format.specs.Numbers.{number}
use Rattle.format.specs.declared.config.Endianness.{Endianness}
use Rattle.format.specs.declared.config.IntEncoding.{IntEncoding}
use Rattle.format.specs.declared.config.IntEncoding.TheVariants.{Fixed, Variable}
use Rattle.format.specs.declared.error.IntegerType.{IntegerType}
use Rattle.format.specs.declared.error.IntegerType.TheVariants.{U16, U32, U64, U128, Usize, I16, I32, I64, I128, Reserved}
use Rattle.readings.specs.Laws.{too_wide}
use Rattle.readings.specs.Readings.{Reading, giving, refusing, claiming, taking, looking, peeking, ◌then◌}

-- how many bytes an integer type has; the last three are asked for by no call
abbrev pub type_width : IntegerType → ℕ
type_width U16 = 2
type_width I16 = 2
type_width U32 = 4
type_width I32 = 4
type_width U64 = 8
type_width I64 = 8
type_width Usize = 8
type_width U128 = 8
type_width I128 = 8
type_width Reserved = 8

-- the type that a refusal names as expected where the integer was peeked: the first mark
abbrev pub peek_name : IntegerType → IntegerType
peek_name U64 = U32
peek_name I64 = I32
peek_name U16 = U16
peek_name I16 = I16
peek_name U32 = U32
peek_name I32 = I32
peek_name Usize = Usize
peek_name U128 = U128
peek_name I128 = I128
peek_name Reserved = Reserved

-- a type's name as a signed type that was asked for has it: signed, but for Reserved
abbrev pub signed_name : IntegerType → IntegerType
signed_name U16 = I16
signed_name U32 = I32
signed_name U64 = I64
signed_name U128 = I128
signed_name Usize = Usize
signed_name I16 = I16
signed_name I32 = I32
signed_name I64 = I64
signed_name I128 = I128
signed_name Reserved = Reserved

abbrev pub named_for : IntegerType → IntegerType → IntegerType
named_for I16 t = signed_name t
named_for I32 t = signed_name t
named_for I64 t = signed_name t
named_for I128 t = signed_name t
named_for U16 t = t
named_for U32 t = t
named_for U64 t = t
named_for U128 t = t
named_for Usize t = t
named_for Reserved t = t

-- the type that a tag stands for, as the type that was asked for names it
abbrev pub found : IntegerType → ℕ → IntegerType
found t tag = named_for t (cond (tag == 252) U32 (cond (tag == 253) U64 (cond (tag == 254) U128 Reserved)))

-- how many bytes follow a tag: none after a number below 251, 2 after 251, 4 after 252, 8 after 253, and more than any type has here after the others
abbrev pub following : ℕ → ℕ
following tag = cond (nat_lt tag 251) 0 (cond (tag == 251) 2 (cond (tag == 252) 4 (cond (tag == 253) 8 16)))

-- whether a tag is too wide for a type
abbrev pub is_wide : IntegerType → ℕ → Bool
is_wide t tag = nat_lt (type_width t) (following tag)

-- a number in k bytes
abbrev pub number_reading : Endianness → ℕ → Reading ℕ
number_reading o k = taking k then (λ bs. giving (number o bs))

-- the number after a tag
abbrev pub after_tag : IntegerType → Endianness → ℕ → Reading ℕ
after_tag t o tag =
    cond (is_wide t tag) (refusing (too_wide t (found t tag)))
    (cond (nat_lt tag 251) (giving tag) (number_reading o (following tag)))

-- the tag, and then the number
abbrev pub tag_first : IntegerType → Endianness → Reading ℕ
tag_first t o = taking 1 then (λ bs. after_tag t o (slice_index bs 0))

-- the same, where a tag that is too wide is refused before it is taken, under the name that a peek gives: the second mark
abbrev pub peeked_first : IntegerType → Endianness → Reading ℕ
peeked_first t o = looking (λ tag. cond (is_wide t tag) (refusing (too_wide (peek_name t) (found t tag))) (tag_first t o))

-- one byte more than the type has is peeked
abbrev pub variable_reading : IntegerType → Endianness → Reading ℕ
variable_reading t o = peeking (type_width t + 1) (peeked_first t o) (tag_first t o)

-- the type's width is claimed; then a Fixed integer is one read of its width
abbrev pub integer_reading : IntegerType → Endianness → IntEncoding → Reading ℕ
integer_reading t o Fixed = claiming (type_width t) then (λ _. number_reading o (type_width t))
integer_reading t o Variable = claiming (type_width t) then (λ _. variable_reading t o)
