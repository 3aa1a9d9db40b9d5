-- The laws of the scalars' readings.
use Rattle.std.proofs.Common.{◌≡◌, ℕ, ◌+◌, ◌/◌, ◌^◌, ◌<◌, Bool, true, false, eqb, ltb, List, [], ◌∷◌, ◌++◌, length, get_or, ℤ, sym, refl, ap, ◌∙◌, subst, append-nil, arith}
use Rattle.format.specs.Durations.{carried}
use Rattle.format.specs.Integers.{signed_value}
use Rattle.format.specs.Numbers.{number}
use Rattle.format.specs.Refusals.{refusal}
use Rattle.format.specs.Standing.{UnsignedStands, SignedStands, ByteStands, TruthStands, falsehood, truth, DoubleStands, DurationStands}
use Rattle.format.specs.declared.config.Endianness.{Endianness}
use Rattle.format.specs.declared.config.IntEncoding.{IntEncoding}
use Rattle.format.specs.declared.double.F64.{F64}
use Rattle.format.specs.declared.duration.Duration.{Duration}
use Rattle.format.specs.declared.error.IntegerType.{IntegerType}
use Rattle.format.specs.declared.error.IntegerType.TheVariants.{U32, U64}
use Rattle.readings.proofs.Accepts.{giving_accepts, refusing_accepts, taking_accepts, either_accepts, then_accepts, claimed_accepts, made_accepts}
use Rattle.readings.proofs.Integers.{number_lawful, integer_lawful, number_returns, unsigned_returns, number_accepts, one_byte, unsigned_accepts}
use Rattle.readings.proofs.Words.{giving_returns, taking_returns, then_returns, claimed_returns, ended_returns, made_returns, weaker, giving_lawful, refusing_lawful, claiming_lawful, taking_lawful, then_lawful}
use Rattle.readings.specs.Accepts.{Accepts}
use Rattle.readings.specs.Integers.{type_width, number_reading, integer_reading}
use Rattle.readings.specs.Laws.{Returns, Lawful}
use Rattle.readings.specs.Readings.{Reading, giving, refusing, claiming, taking, ◌then◌}
use Rattle.readings.specs.Scalars.{byte_reading, truth_of, truth_reading, signed_reading, with_bits, double_reading, duration_of, duration_reading}
use Rattle.std.proofs.lemmas.Bool.{ltb-true, eqb-true, lt-ltb, cond-true, cond_both}

-- ---- what every reading keeps

-- a value that is made of what was read
pub made_lawful : {A B : Type 0} (f : Reading A) (h : A → B) → Lawful 2 0 0 f → Lawful 2 0 0 (f then (λ y. giving (h y)))
made_lawful f h k = then_lawful 2 0 0 0 f (λ y. giving (h y)) k (λ y. giving_lawful 2 0 (h y))

-- a byte: its claim pays three units, and it uses two
pub byte_lawful : Lawful 2 0 0 byte_reading
byte_lawful =
    weaker byte_reading 2 0 1 2 0 0 (omega arith) (omega arith) (omega arith)
    (then_lawful 2 0 3 1 (claiming 1) (λ _. taking 1 then (λ bs. giving (get_or bs 0 0))) (claiming_lawful 2 0 1)
    (λ _. then_lawful 2 3 1 1 (taking 1) (λ bs. giving (get_or bs 0 0)) (taking_lawful 2 1 1) (λ bs. giving_lawful 2 1 (get_or bs 0 0))))

-- what a byte says of a truth value uses nothing
truth_of_lawful : (b : ℕ) → Lawful 2 0 0 (truth_of b)
truth_of_lawful b =
    cond_both {A = Reading Bool} (eqb b 0) (giving false) _ (Lawful 2 0 0)
    (λ _. giving_lawful 2 0 false)
    (λ _. cond_both {A = Reading Bool} (eqb b 1) (giving true) (refusing (refusal 8 (b ∷ []))) (Lawful 2 0 0) (λ _. giving_lawful 2 0 true) (λ _. refusing_lawful 2 0 0 (refusal 8 (b ∷ []))))

-- a truth value pays as its byte does
pub truth_lawful : Lawful 2 0 0 truth_reading
truth_lawful = then_lawful 2 0 0 0 byte_reading truth_of byte_lawful truth_of_lawful

-- a signed integer pays as the number that it goes as
pub signed_lawful : (t : IntegerType) (o : Endianness) (i : IntEncoding) → Lawful 2 0 0 (signed_reading t o i)
signed_lawful t o i = made_lawful (integer_reading t o i) (signed_value (type_width t) i) (integer_lawful t o i)

-- a double: its claim pays 24 units, and it uses 16
pub double_lawful : (o : Endianness) → Lawful 2 0 0 (double_reading o)
double_lawful o =
    then_lawful 2 0 24 0 (claiming 8) (λ _. number_reading o 8 then (λ n. giving (with_bits n))) (claiming_lawful 2 0 8)
    (λ _. weaker (number_reading o 8 then (λ n. giving (with_bits n))) 2 16 0 2 24 0 (omega arith) (omega arith) (omega arith)
    (then_lawful 2 16 0 0 (number_reading o 8) (λ n. giving (with_bits n)) (number_lawful o 8) (λ n. giving_lawful 2 0 (with_bits n))))

-- making a duration of two numbers uses nothing
duration_of_lawful : (secs nanos : ℕ) → Lawful 2 0 0 (duration_of secs nanos)
duration_of_lawful secs nanos =
    cond_both {A = Reading Duration} (ltb (secs + nanos / 1000000000) (2 ^ 64)) (giving (carried secs nanos)) (refusing (refusal 9 (secs ∷ nanos ∷ []))) (Lawful 2 0 0)
    (λ _. giving_lawful 2 0 (carried secs nanos))
    (λ _. refusing_lawful 2 0 0 (refusal 9 (secs ∷ nanos ∷ [])))

-- a duration pays as its two integers do
pub duration_lawful : (o : Endianness) (i : IntEncoding) → Lawful 2 0 0 (duration_reading o i)
duration_lawful o i =
    then_lawful 2 0 0 0 (integer_reading U64 o i) (λ secs. integer_reading U32 o i then (λ nanos. duration_of secs nanos)) (integer_lawful U64 o i)
    (λ secs. then_lawful 2 0 0 0 (integer_reading U32 o i) (λ nanos. duration_of secs nanos) (integer_lawful U32 o i) (λ nanos. duration_of_lawful secs nanos))

-- ---- what stands for a value is returned

-- a byte
pub byte_returns : (bs : List ℕ) (n : ℕ) → ByteStands bs n → Returns byte_reading bs 1 n
byte_returns bs n e =
    subst (λ z. Returns byte_reading z 1 n) (sym e)
    (claimed_returns 1 (taking 1 then (λ z. giving (get_or z 0 0))) n (n ∷ []) (made_returns (taking 1) (λ z. get_or z 0 0) (n ∷ []) (n ∷ []) 0 (taking_returns 1 (n ∷ []) refl)))

-- a truth value: its byte, and then what it says
pub truth_returns : (bs : List ℕ) (b : Bool) → TruthStands bs b → Returns truth_reading bs 1 b
truth_returns bs b falsehood = ended_returns byte_reading truth_of 0 false (0 ∷ []) 1 (byte_returns (0 ∷ []) 0 refl) (giving_returns false)
truth_returns bs b truth = ended_returns byte_reading truth_of 1 true (1 ∷ []) 1 (byte_returns (1 ∷ []) 1 refl) (giving_returns true)

-- a signed integer: the number that it goes as, turned back
pub signed_returns : (t : IntegerType) (o : Endianness) (i : IntEncoding) (bs : List ℕ) (z : ℤ) → SignedStands (type_width t) o i bs z → Returns (signed_reading t o i) bs (type_width t) z
signed_returns t o i bs z k =
    let w = type_width t in
    subst (λ v. Returns (signed_reading t o i) bs w v) k.turned
    (made_returns (integer_reading t o i) (signed_value w i) k.goes_as bs w (unsigned_returns t o i bs k.goes_as k.stands))

-- a double: the number of its 8 bytes is its bits
pub double_returns : (o : Endianness) (bs : List ℕ) (d : F64) → DoubleStands o bs d → Returns (double_reading o) bs 8 d
double_returns o bs d k =
    claimed_returns 8 (number_reading o 8 then (λ n. giving (with_bits n))) d bs
    (made_returns (number_reading o 8) with_bits d.bits bs 0 (number_returns o 8 bs d.bits k.eight k.bits))

-- a duration: its two integers in a row, and then the seconds fit 64 bits
pub duration_returns : (o : Endianness) (i : IntEncoding) (bs : List ℕ) (d : Duration) → DurationStands o i bs d → Returns (duration_reading o i) bs 12 d
duration_returns o i bs d k =
    let whole : k.secs + k.nanos / 1000000000 ≡ d.secs = ap (λ (e : Duration). e.secs) k.value in
    let below : k.secs + k.nanos / 1000000000 < 2 ^ 64 = let h = k.fits in omega arith in
    let is : duration_of k.secs k.nanos ≡ giving d = cond-true (ltb (k.secs + k.nanos / 1000000000) (2 ^ 64)) _ _ (lt-ltb (k.secs + k.nanos / 1000000000) (2 ^ 64) below) ∙ ap giving k.value in
    subst (λ z. Returns (duration_reading o i) z 12 d) k.in_a_row
    (then_returns (integer_reading U64 o i) (λ secs. integer_reading U32 o i then duration_of secs) k.secs d k.first k.second 8 4 (unsigned_returns U64 o i k.first k.secs k.seconds)
    (ended_returns (integer_reading U32 o i) (duration_of k.secs) k.nanos d k.second 4 (unsigned_returns U32 o i k.second k.nanos k.nanoseconds)
    (subst (λ (f : Reading Duration). Returns f [] 0 d) (sym is) (giving_returns d))))

-- ---- what an accepted reading used stands for the value

-- a byte: the one that was taken
pub byte_accepts : Accepts byte_reading ByteStands
byte_accepts =
    claimed_accepts 1 (taking 1 then (λ bs. giving (get_or bs 0 0))) ByteStands
    (made_accepts (taking 1) (λ bs. get_or bs 0 0) (λ x bs. (x ≡ bs) × (length bs ≡ 1)) ByteStands (taking_accepts 1) (λ x bs c. c.0 ∙ one_byte bs c.1))

-- a truth value: its byte was 0 or 1
pub truth_accepts : Accepts truth_reading TruthStands
truth_accepts =
    then_accepts byte_reading truth_of ByteStands TruthStands byte_accepts
    (λ n x c. let S : List ℕ → Bool → Type 0 = λ y b. TruthStands (x ++ y) b in
    let at : (j : ℕ) (b : Bool) → TruthStands (j ∷ []) b → eqb n j ≡ true → S [] b = λ j b r e. subst (λ z. TruthStands (z ++ []) b) (sym (c ∙ ap (λ k. k ∷ []) (eqb-true n j e))) r in
    either_accepts S (eqb n 0) (giving false) _
    (λ e. giving_accepts S false (at 0 false TruthStands.falsehood e))
    (λ _. either_accepts S (eqb n 1) (giving true) _ (λ e. giving_accepts S true (at 1 true TruthStands.truth e)) (λ _. refusing_accepts S (refusal 8 (n ∷ [])))))

-- a signed integer: what was used stands for a number, and that was turned back
pub signed_accepts : (t : IntegerType) (o : Endianness) (i : IntEncoding) → Accepts (signed_reading t o i) (SignedStands (type_width t) o i)
signed_accepts t o i =
    let w = type_width t in
    made_accepts (integer_reading t o i) (signed_value w i) (UnsignedStands w o i) (SignedStands w o i) (unsigned_accepts t o i)
    (λ x n c. record { goes_as = n; stands = c; turned = refl })

-- a double: 8 bytes, whose number is its bits
pub double_accepts : (o : Endianness) → Accepts (double_reading o) (DoubleStands o)
double_accepts o =
    claimed_accepts 8 (number_reading o 8 then (λ n. giving (with_bits n))) (DoubleStands o)
    (made_accepts (number_reading o 8) with_bits (λ bs n. (length bs ≡ 8) × (number o bs ≡ n)) (DoubleStands o) (number_accepts o 8) (λ bs n c. record { eight = c.0; bits = c.1 }))

-- a duration: two integers in a row, and the seconds fitted 64 bits
pub duration_accepts : (o : Endianness) (i : IntEncoding) → Accepts (duration_reading o i) (DurationStands o i)
duration_accepts o i =
    then_accepts (integer_reading U64 o i) (λ secs. integer_reading U32 o i then duration_of secs) (UnsignedStands 8 o i) (DurationStands o i) (unsigned_accepts U64 o i)
    (λ secs x c. then_accepts (integer_reading U32 o i) (duration_of secs) (UnsignedStands 4 o i) (λ y d. DurationStands o i (x ++ y) d) (unsigned_accepts U32 o i)
    (λ nanos y k. let S : List ℕ → Duration → Type 0 = λ z d. DurationStands o i (x ++ (y ++ z)) d in
    either_accepts S (ltb (secs + nanos / 1000000000) (2 ^ 64)) (giving (carried secs nanos)) (refusing (refusal 9 (secs ∷ nanos ∷ [])))
    (λ e. giving_accepts S (carried secs nanos)
    (record {
      first = x;
      second = y;
      secs = secs;
      nanos = nanos;
      in_a_row = ap (λ z. x ++ z) (sym (append-nil y));
      seconds = c;
      nanoseconds = k;
      value = refl;
      fits = ltb-true (secs + nanos / 1000000000) (2 ^ 64) e;
    }))
    (λ _. refusing_accepts S (refusal 9 (secs ∷ nanos ∷ [])))))
