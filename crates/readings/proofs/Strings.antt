-- The laws of the readings of byte strings and text, and which bytes they accept.
use Rattle.std.proofs.Common.{◌≡◌, ℕ, ◌+◌, ◌*◌, ◌^◌, ◌<◌, Bool, true, false, cond, eqb, List, [], ◌∷◌, ◌++◌, length, sym, refl, ap, ◌∙◌, subst, append-nil, arith}
use Rattle.format.proofs.Pieces.{joined_append}
use Rattle.format.proofs.Texts.{text_judged}
use Rattle.format.specs.Integers.{unsigned_writing}
use Rattle.format.specs.Pieces.{joined}
use Rattle.format.specs.Refusals.{Answer, given, refused}
use Rattle.format.specs.Standing.{UnsignedStands, StringStands, TextStands}
use Rattle.format.specs.Texts.{Text, text_length, text_fault}
use Rattle.format.specs.declared.config.Endianness.{Endianness}
use Rattle.format.specs.declared.config.IntEncoding.{IntEncoding}
use Rattle.format.specs.declared.error.IntegerType.TheVariants.{U64}
use Rattle.readings.proofs.Accepts.{then_accepts, taking_accepts, implied_accepts, claimed_accepts}
use Rattle.readings.proofs.Integers.{integer_lawful, unsigned_returns, unsigned_accepts}
use Rattle.readings.proofs.Standing.{unsigned_writes}
use Rattle.readings.proofs.Words.{giving_returns, taking_returns, then_returns, claimed_returns, ended_returns, weaker, giving_lawful, refusing_lawful, claiming_lawful, taking_lawful, then_lawful}
use Rattle.readings.specs.Accepts.{Accepts}
use Rattle.readings.specs.Integers.{integer_reading}
use Rattle.readings.specs.Laws.{Returns, Lawful}
use Rattle.readings.specs.Readings.{Source, outcome, claiming, taking}
use Rattle.readings.specs.Strings.{bytes_reading, string_reading, text_judging, text_reading}

-- ---- what every reading keeps

pub bytes_lawful : (n : ℕ) → Lawful 2 0 0 (bytes_reading n)
bytes_lawful n =
    then_lawful 2 0 (0 + 3 * n) 0 (claiming n) (λ _. taking n) (claiming_lawful 2 0 n)
    (λ _. weaker (taking n) 2 (0 + 2 * n) 0 2 (0 + 3 * n) 0 (omega arith) (omega arith) (omega arith) (taking_lawful 2 0 n))

pub string_lawful : (o : Endianness) (i : IntEncoding) → Lawful 2 0 0 (string_reading o i)
string_lawful o i = then_lawful 2 0 0 0 (integer_reading U64 o i) bytes_reading (integer_lawful U64 o i) bytes_lawful

pub judging_lawful : (bs : List ℕ) → Lawful 2 0 0 (text_judging bs)
judging_lawful bs = by (eqb (text_length bs) (length bs))
  where
    by : (b : Bool) → Lawful 2 0 0 (λ (s : Source). outcome (cond b (given bs) (refused (text_fault bs (text_length bs)))) 0 s.count)
    by true = giving_lawful 2 0 bs
    by false = refusing_lawful 2 0 0 (text_fault bs (text_length bs))

pub text_lawful : (o : Endianness) (i : IntEncoding) → Lawful 2 0 0 (text_reading o i)
text_lawful o i = then_lawful 2 0 0 0 (string_reading o i) text_judging (string_lawful o i) judging_lawful

-- ---- what stands for a byte string or a text is read as it

pub string_returns : (o : Endianness) (i : IntEncoding) (bs v : List ℕ) → StringStands o i bs v → Returns (string_reading o i) bs (8 + length v) v
string_returns o i bs v h =
    subst (λ x. Returns (string_reading o i) x (8 + length v) v) h.in_a_row
    (then_returns (integer_reading U64 o i) bytes_reading (length v) v h.front v 8 (length v) (unsigned_returns U64 o i h.front (length v) h.counted) (claimed_returns (length v) (taking (length v)) v v (taking_returns (length v) v refl)))

pub text_returns : (o : Endianness) (i : IntEncoding) (bs v : List ℕ) → TextStands o i bs v → Returns (text_reading o i) bs (8 + length v) v
text_returns o i bs v h =
    ended_returns (string_reading o i) text_judging v v bs (8 + length v) (string_returns o i bs v h.string)
    (subst (λ (a : Answer (List ℕ)). Returns (λ (s : Source). outcome a 0 s.count) [] 0 v) (sym ((text_judged v).accepts h.text)) (giving_returns v))

-- ---- what an accepted reading used stands for its value

pub string_accepts : (o : Endianness) (i : IntEncoding) → Accepts (string_reading o i) (StringStands o i)
string_accepts o i =
    then_accepts (integer_reading U64 o i) bytes_reading (UnsignedStands 8 o i) (StringStands o i) (unsigned_accepts U64 o i)
    (λ n x h. claimed_accepts n (taking n) (λ y b. StringStands o i (x ++ y) b)
    (implied_accepts (taking n) (λ y b. (y ≡ b) × (length b ≡ n)) (λ y b. StringStands o i (x ++ y) b)
    (λ y b e. record { front = x; in_a_row = ap (λ z. x ++ z) (sym e.0); counted = subst (λ k. UnsignedStands 8 o i x k) (sym e.1) h }) (taking_accepts n)))

pub text_accepts : (o : Endianness) (i : IntEncoding) → Accepts (text_reading o i) (TextStands o i)
text_accepts o i =
    then_accepts (string_reading o i) text_judging (StringStands o i) (TextStands o i) (string_accepts o i)
    (λ v x h s w e. let t = (text_judged v).gives w e in
    subst (λ y. TextStands o i (x ++ y) w) (sym refl) (record { string = subst (λ y. StringStands o i y w) (sym (append-nil x)) (subst (StringStands o i x) (sym t.0) h); text = subst Text (sym t.0) t.1 }))

-- ---- a writing stands for its value

pub string_writes : (o : Endianness) (i : IntEncoding) (v : List ℕ) → length v < 2 ^ 64 → StringStands o i (joined (unsigned_writing 8 o i (length v) ++ (v ∷ []))) v
string_writes o i v h = record {
  front = joined (unsigned_writing 8 o i (length v));
  in_a_row = ap (λ x. joined (unsigned_writing 8 o i (length v)) ++ x) (sym (append-nil v)) ∙ sym (joined_append (unsigned_writing 8 o i (length v)) (v ∷ []));
  counted = unsigned_writes U64 o i (length v) h;
}
