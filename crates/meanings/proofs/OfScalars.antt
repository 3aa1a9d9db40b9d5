-- The scalars' relations are theirs.
use Rattle.std.proofs.Common.{◌^◌, sym, subst, append-nil, ltb-true}
use Rattle.format.specs.Standing.{UnsignedStands, SignedStands, ByteStands, TruthStands, DoubleStands, CharStands, DurationStands}
use Rattle.format.specs.Utf8.{utf8}
use Rattle.format.specs.declared.error.IntegerType.{IntegerType}
use Rattle.elements.specs.Scalars.{byte, truth, unsigned, signed, double, character, duration}
use Rattle.readings.proofs.Chars.{char_returns, char_accepts}
use Rattle.readings.proofs.Integers.{unsigned_returns, unsigned_accepts}
use Rattle.readings.proofs.Scalars.{byte_returns, byte_accepts, truth_returns, truth_accepts, signed_returns, signed_accepts, double_returns, double_accepts, duration_returns, duration_accepts}
use Rattle.readings.proofs.Standing.{unsigned_writes, signed_writes, byte_writes, truth_writes, double_writes, duration_writes}
use Rattle.readings.specs.Chars.{char_reading}
use Rattle.readings.specs.Integers.{type_width, integer_reading}
use Rattle.readings.specs.Laws.{Returns}
use Rattle.readings.specs.Scalars.{byte_reading, truth_reading, signed_reading, double_reading, duration_reading}
use Rattle.meanings.specs.Relations.{Stands}

pub byte_stands : Stands byte (λ o i. byte_reading) (λ o i. ByteStands)
byte_stands = record { writes = λ o i n h. byte_writes n; returns = λ o i. byte_returns; accepts = λ o i. byte_accepts }

pub truth_stands : Stands truth (λ o i. truth_reading) (λ o i. TruthStands)
truth_stands = record { writes = λ o i b h. truth_writes b; returns = λ o i. truth_returns; accepts = λ o i. truth_accepts }

pub unsigned_stands : (t : IntegerType) → Stands (unsigned (type_width t)) (integer_reading t) (UnsignedStands (type_width t))
unsigned_stands t = record { writes = λ o i n h. unsigned_writes t o i n (ltb-true n (256 ^ type_width t) h); returns = unsigned_returns t; accepts = unsigned_accepts t }

pub signed_stands : (t : IntegerType) → Stands (signed (type_width t)) (signed_reading t) (SignedStands (type_width t))
signed_stands t = record { writes = signed_writes t; returns = signed_returns t; accepts = signed_accepts t }

pub double_stands : Stands double (λ o i. double_reading o) (λ o i. DoubleStands o)
double_stands = record { writes = λ o i d h. double_writes o d (ltb-true d.bits (256 ^ 8) h); returns = λ o i. double_returns o; accepts = λ o i. double_accepts o }

pub character_stands : Stands character (λ o i. char_reading) (λ o i. CharStands)
character_stands = record {
  writes = λ o i c h. append-nil (utf8 c.code);
  returns = λ o i bs c h. subst (λ x. Returns char_reading x (character.claim c) c) (sym h) (char_returns c);
  accepts = λ o i. char_accepts;
}

pub duration_stands : Stands duration duration_reading DurationStands
duration_stands = record { writes = duration_writes; returns = duration_returns; accepts = duration_accepts }
