-- That the types of this library keep the laws of an element: the scalars, and the compound types if their parts do.
use Rattle.std.proofs.Common.{◌≡◌, ℕ, ◌+◌, ◌^◌, ◌<◌, true, [], ◌∷◌, Some, None, Ok, Err, Option, Result, sym, subst, append-nil, arith, ltb-true}
use Rattle.format.proofs.Pieces.{joined_append}
use Rattle.format.specs.Integers.{unsigned_writing}
use Rattle.format.specs.Pieces.{joined}
use Rattle.format.specs.Utf8.{utf8}
use Rattle.format.specs.declared.config.Endianness.{Endianness}
use Rattle.format.specs.declared.config.IntEncoding.{IntEncoding}
use Rattle.format.specs.declared.error.IntegerType.{IntegerType}
use Rattle.format.specs.declared.error.IntegerType.TheVariants.{U32}
use Rattle.meanings.proofs.Decodes.{laws_from, lawful}
use Rattle.elements.specs.Compounds.{option, result, bound, pair}
use Rattle.elements.specs.Elements.{ElementMeaning}
use Rattle.meanings.specs.Decodes.{ElementLaws}
use Rattle.elements.specs.Scalars.{byte, truth, unsigned, signed, double, character, duration}
use Rattle.readings.proofs.Chars.{char_returns, char_lawful}
use Rattle.readings.proofs.Compounds.{none_returns, some_returns, option_lawful, ok_returns, err_returns, result_lawful, unbounded_returns, included_returns, excluded_returns, bound_lawful, pair_returns, pair_lawful}
use Rattle.readings.proofs.Integers.{integer_returns, integer_lawful}
use Rattle.readings.proofs.Scalars.{byte_returns, byte_lawful, truth_returns, truth_lawful, signed_returns, signed_lawful, double_returns, double_lawful, duration_returns, duration_lawful}
use Rattle.readings.proofs.Standing.{byte_writes, truth_writes, signed_writes, double_writes, duration_writes}
use Rattle.readings.specs.Chars.{char_reading}
use Rattle.readings.specs.Compounds.{option_reading, result_reading, bound_reading, pair_reading}
use Rattle.readings.specs.Integers.{type_width, integer_reading}
use Rattle.readings.specs.Laws.{Returns}
use Rattle.readings.specs.Readings.{Reading}
use Rattle.readings.specs.Scalars.{byte_reading, truth_reading, signed_reading, double_reading, duration_reading}
use Rattle.std.proofs.lemmas.Bool.{and_parts}
use Rattle.std.specs.declared.ops.Bound.{Bound}
use Rattle.std.specs.declared.ops.Bound.TheVariants.{Included, Excluded, Unbounded}

-- ---- the scalars

pub byte_laws : ElementLaws byte (λ o i. byte_reading)
byte_laws = laws_from byte (λ o i. byte_reading) (λ o i n h. byte_returns (n ∷ []) n (byte_writes n)) (λ o i. byte_lawful)

pub truth_laws : ElementLaws truth (λ o i. truth_reading)
truth_laws = laws_from truth (λ o i. truth_reading) (λ o i b h. truth_returns _ b (truth_writes b)) (λ o i. truth_lawful)

pub unsigned_laws : (t : IntegerType) → ElementLaws (unsigned (type_width t)) (integer_reading t)
unsigned_laws t = laws_from (unsigned (type_width t)) (integer_reading t) (λ o i n h. integer_returns t o i n (ltb-true n (256 ^ type_width t) h)) (integer_lawful t)

pub signed_laws : (t : IntegerType) → ElementLaws (signed (type_width t)) (signed_reading t)
signed_laws t = laws_from (signed (type_width t)) (signed_reading t) (λ o i z h. signed_returns t o i _ z (signed_writes t o i z h)) (signed_lawful t)

pub double_laws : ElementLaws double (λ o i. double_reading o)
double_laws = laws_from double (λ o i. double_reading o) (λ o i d h. double_returns o _ d (double_writes o d (ltb-true d.bits (256 ^ 8) h))) (λ o i. double_lawful o)

pub character_laws : ElementLaws character (λ o i. char_reading)
character_laws =
    laws_from character (λ o i. char_reading)
    (λ o i c h. subst (λ x. Returns char_reading x (character.claim c) c) (sym (append-nil (utf8 c.code))) (char_returns c))
    (λ o i. char_lawful)

pub duration_laws : ElementLaws duration duration_reading
duration_laws = laws_from duration duration_reading (λ o i d h. duration_returns o i _ d (duration_writes o i d h)) duration_lawful

-- ---- the compound types

-- a tag of 0, 1 or 2 is returned
tag_returns : (o : Endianness) (i : IntEncoding) (k : ℕ) → k < 3 → Returns (integer_reading U32 o i) (joined (unsigned_writing 4 o i k)) 4 k
tag_returns o i k h = integer_returns U32 o i k (omega arith)

module _ {A : Type 0} (e : ElementMeaning A) (f : Endianness → IntEncoding → Reading A) (laws : ElementLaws e f) where
  option_returns : (o : Endianness) (i : IntEncoding) (v : Option A) → (option e).valid v ≡ true → Returns (option_reading (f o i)) (joined ((option e).writing o i v)) ((option e).claim v) v
  option_returns o i None h = none_returns (f o i)
  option_returns o i (Some v) h = some_returns (f o i) (joined (e.writing o i v)) (e.claim v) v (laws.returns o i v h)

  pub option_laws : ElementLaws (option e) (λ o i. option_reading (f o i))
  option_laws = laws_from (option e) (λ o i. option_reading (f o i)) option_returns (λ o i. option_lawful (f o i) (lawful e f laws o i))

  bound_returns : (o : Endianness) (i : IntEncoding) (v : Bound A) → (bound e).valid v ≡ true → Returns (bound_reading o i (f o i)) (joined ((bound e).writing o i v)) ((bound e).claim v) v
  bound_returns o i Unbounded h = unbounded_returns (f o i) o i _ (tag_returns o i 0 (omega arith))
  bound_returns o i (Included v) h =
      subst (λ x. Returns (bound_reading o i (f o i)) x (4 + e.claim v) (Included v)) (sym (joined_append (unsigned_writing 4 o i 1) (e.writing o i v)))
      (included_returns (f o i) o i _ _ (e.claim v) v (tag_returns o i 1 (omega arith)) (laws.returns o i v h))
  bound_returns o i (Excluded v) h =
      subst (λ x. Returns (bound_reading o i (f o i)) x (4 + e.claim v) (Excluded v)) (sym (joined_append (unsigned_writing 4 o i 2) (e.writing o i v)))
      (excluded_returns (f o i) o i _ _ (e.claim v) v (tag_returns o i 2 (omega arith)) (laws.returns o i v h))

  pub bound_laws : ElementLaws (bound e) (λ o i. bound_reading o i (f o i))
  bound_laws = laws_from (bound e) (λ o i. bound_reading o i (f o i)) bound_returns (λ o i. bound_lawful (f o i) (lawful e f laws o i) o i)

module _ {A B : Type 0} (a : ElementMeaning A) (b : ElementMeaning B) (f : Endianness → IntEncoding → Reading A) (g : Endianness → IntEncoding → Reading B) (first : ElementLaws a f) (second : ElementLaws b g) where
  result_returns : (o : Endianness) (i : IntEncoding) (v : Result A B) → (result a b).valid v ≡ true → Returns (result_reading o i (f o i) (g o i)) (joined ((result a b).writing o i v)) ((result a b).claim v) v
  result_returns o i (Ok v) h =
      subst (λ x. Returns (result_reading o i (f o i) (g o i)) x (4 + a.claim v) (Ok v)) (sym (joined_append (unsigned_writing 4 o i 0) (a.writing o i v)))
      (ok_returns (f o i) (g o i) _ _ o i (a.claim v) v (tag_returns o i 0 (omega arith)) (first.returns o i v h))
  result_returns o i (Err w) h =
      subst (λ x. Returns (result_reading o i (f o i) (g o i)) x (4 + b.claim w) (Err w)) (sym (joined_append (unsigned_writing 4 o i 1) (b.writing o i w)))
      (err_returns (f o i) (g o i) _ _ o i (b.claim w) w (tag_returns o i 1 (omega arith)) (second.returns o i w h))

  pub result_laws : ElementLaws (result a b) (λ o i. result_reading o i (f o i) (g o i))
  result_laws = laws_from (result a b) (λ o i. result_reading o i (f o i) (g o i)) result_returns (λ o i. result_lawful (f o i) (g o i) (lawful a f first o i) (lawful b g second o i) o i)

  both_returns : (o : Endianness) (i : IntEncoding) (v : A × B) → (pair a b).valid v ≡ true → Returns (pair_reading (f o i) (g o i)) (joined ((pair a b).writing o i v)) ((pair a b).claim v) v
  both_returns o i v h =
      let k = and_parts (a.valid v.0) (b.valid v.1) h in
      subst (λ x. Returns (pair_reading (f o i) (g o i)) x (a.claim v.0 + b.claim v.1) v) (sym (joined_append (a.writing o i v.0) (b.writing o i v.1)))
      (pair_returns (f o i) (g o i) _ _ (a.claim v.0) (b.claim v.1) v.0 v.1 (first.returns o i v.0 k.0) (second.returns o i v.1 k.1))

  pub pair_laws : ElementLaws (pair a b) (λ o i. pair_reading (f o i) (g o i))
  pair_laws = laws_from (pair a b) (λ o i. pair_reading (f o i) (g o i)) both_returns (λ o i. pair_lawful (f o i) (g o i) (lawful a f first o i) (lawful b g second o i))
