-- What each scalar type means: which terms are its values, how a value is written, and what it claims.
use Rattle.std.specs.Prelude.{ℕ, Bool, true, cond, [], ◌∷◌, ◌++◌, ℤ}
use Rattle.format.specs.Integers.{unsigned_range, signed_range, unsigned_writing, signed_writing}
use Rattle.format.specs.Numbers.{bytes}
use Rattle.format.specs.Utf8.{utf8, width}
use Rattle.format.specs.declared.double.F64.{F64}
use Rattle.format.specs.declared.duration.Duration.{Duration}
use Rattle.format.specs.declared.scalar.Char.{Char}
use Rattle.elements.specs.Elements.{ElementMeaning}

-- a byte is itself, in both encodings
abbrev pub byte : ElementMeaning ℕ
byte = record { valid = unsigned_range 1; writing = λ o i n. (n ∷ []) ∷ []; claim = λ n. 1 }

-- a truth value is the byte 0 or 1
abbrev pub truth : ElementMeaning Bool
truth = record { valid = λ b. true; writing = λ o i b. (cond b 1 0 ∷ []) ∷ []; claim = λ b. 1 }

-- an unsigned integer of w bytes
abbrev pub unsigned : ℕ → ElementMeaning ℕ
unsigned w = record { valid = unsigned_range w; writing = unsigned_writing w; claim = λ n. w }

-- a signed integer of w bytes
abbrev pub signed : ℕ → ElementMeaning ℤ
signed w = record { valid = signed_range w; writing = signed_writing w; claim = λ z. w }

-- a double is its 64 bits in the byte order, in both encodings
abbrev pub double : ElementMeaning F64
double = record { valid = λ d. unsigned_range 8 d.bits; writing = λ o i d. bytes o 8 d.bits ∷ []; claim = λ d. 8 }

-- a character is its UTF-8 form as one piece
abbrev pub character : ElementMeaning Char
character = record { valid = λ c. true; writing = λ o i c. utf8 c.code ∷ []; claim = λ c. width c.code }

-- a duration is its seconds as an integer of 8 bytes and then its nanoseconds as one of 4
abbrev pub duration : ElementMeaning Duration
duration = record {
  valid = λ d. unsigned_range 8 d.secs;
  writing = λ o i d. unsigned_writing 8 o i d.secs ++ unsigned_writing 4 o i d.nanos;
  claim = λ d. 12;
}
