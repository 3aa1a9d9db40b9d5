-- A value's writing stands for it.
use Rattle.std.proofs.Common.{◌≡◌, ℕ, ◌^◌, ◌<◌, ◌≤◌, Bool, true, false, cond, ltb, List, [], ◌∷◌, ◌++◌, ℤ, Some, None, Ok, Err, sym, refl, subst, append-nil, arith}
use Rattle.format.proofs.Durations.{carried_own}
use Rattle.format.proofs.Integers.{going, going_fits, going_back}
use Rattle.format.proofs.Numbers.{length_bytes, number_bytes}
use Rattle.format.proofs.Pieces.{joined_append}
use Rattle.format.specs.Integers.{tagged, unsigned_writing, signed_writing, unsigned_range, signed_range}
use Rattle.format.specs.Numbers.{bytes}
use Rattle.format.specs.Pieces.{joined}
use Rattle.format.specs.Standing.{Tagged, UnsignedStands, SignedStands, ByteStands, TruthStands, DoubleStands, DurationStands, OptionStands, ResultStands, BoundStands, PairStands}
use Rattle.format.specs.declared.config.Endianness.{Endianness}
use Rattle.format.specs.declared.config.IntEncoding.{IntEncoding}
use Rattle.format.specs.declared.config.IntEncoding.TheVariants.{Fixed, Variable}
use Rattle.format.specs.declared.double.F64.{F64}
use Rattle.format.specs.declared.duration.Duration.{Duration}
use Rattle.format.specs.declared.error.IntegerType.{IntegerType}
use Rattle.format.specs.declared.error.IntegerType.TheVariants.{U16, U32, U64, U128, Usize, I16, I32, I64, I128, Reserved}
use Rattle.readings.specs.Integers.{type_width}
use Rattle.std.proofs.lemmas.Bool.{ltb-true, ltb-false, cond_both}
use Rattle.std.specs.declared.ops.Bound.TheVariants.{Included, Excluded, Unbounded}

-- the widths that there are
pub data Width : ℕ → Type 0 where
  of_two : Width 2
  of_four : Width 4
  of_eight : Width 8

-- the width of each type is one of them
pub width_of : (t : IntegerType) → Width (type_width t)
width_of U16 = of_two
width_of I16 = of_two
width_of U32 = of_four
width_of I32 = of_four
width_of U64 = of_eight
width_of I64 = of_eight
width_of Usize = of_eight
width_of U128 = of_eight
width_of I128 = of_eight
width_of Reserved = of_eight

-- none is below 2 or above 8, and what passes 2 bytes or 4 takes the next
pub two_fit : {w : ℕ} → Width w → 2 ≤ w
two_fit of_two = omega arith
two_fit of_four = omega arith
two_fit of_eight = omega arith

pub eight_most : {w : ℕ} → Width w → w ≤ 8
eight_most of_two = omega arith
eight_most of_four = omega arith
eight_most of_eight = omega arith

four_fit : {w : ℕ} → Width w → (n : ℕ) → n < 256 ^ w → 2 ^ 16 ≤ n → 4 ≤ w
four_fit of_two n h g = absurd (omega arith)
four_fit of_four n h g = omega arith
four_fit of_eight n h g = omega arith

eight_fit : {w : ℕ} → Width w → (n : ℕ) → n < 256 ^ w → 2 ^ 32 ≤ n → (8 ≤ w) × (n < 256 ^ 8)
eight_fit of_two n h g = absurd (omega arith)
eight_fit of_four n h g = absurd (omega arith)
eight_fit of_eight n h g = (omega arith, h)

-- ---- integers

module _ (t : IntegerType) (o : Endianness) where
  -- a number after a tag
  tagged_writes : {tag k : ℕ} (n : ℕ) → Tagged tag k → k ≤ type_width t → n < 256 ^ k → UnsignedStands (type_width t) o Variable (joined (tagged o tag k n)) n
  tagged_writes {tag} {k} n r fits h =
      subst (λ y. UnsignedStands (type_width t) o Variable (tag ∷ y) n) (sym (append-nil (bytes o k n)))
      (UnsignedStands.tagged r fits (length_bytes o k n) (number_bytes o k n h))

  -- an unsigned integer that the type holds
  pub unsigned_writes : (i : IntEncoding) (n : ℕ) → n < 256 ^ type_width t → UnsignedStands (type_width t) o i (joined (unsigned_writing (type_width t) o i n)) n
  unsigned_writes Fixed n h =
      let w = type_width t in
      subst (λ y. UnsignedStands w o Fixed y n) (sym (append-nil (bytes o w n))) (UnsignedStands.fixed (length_bytes o w n) (number_bytes o w n h))
  unsigned_writes Variable n h =
      let Stands : List (List ℕ) → Type 0 = λ ps. UnsignedStands (type_width t) o Variable (joined ps) n in
      cond_both {A = List (List ℕ)} (ltb n 251) ((n ∷ []) ∷ []) _ Stands
      (λ e. UnsignedStands.single (ltb-true n 251 e))
      (λ _. cond_both {A = List (List ℕ)} (ltb n (2 ^ 16)) (tagged o 251 2 n) _ Stands
      (λ e. tagged_writes n Tagged.two (two_fit (width_of t)) (ltb-true n (2 ^ 16) e))
      (λ f. cond_both {A = List (List ℕ)} (ltb n (2 ^ 32)) (tagged o 252 4 n) (tagged o 253 8 n) Stands
      (λ e. tagged_writes n Tagged.four (four_fit (width_of t) n h (ltb-false n (2 ^ 16) f)) (ltb-true n (2 ^ 32) e))
      (λ e. let w = eight_fit (width_of t) n h (ltb-false n (2 ^ 32) e) in tagged_writes n Tagged.eight w.0 w.1)))

  -- a signed integer is written as the number that it goes as
  signed_as : (i : IntEncoding) (z : ℤ) → unsigned_writing (type_width t) o i (going (type_width t) i z) ≡ signed_writing (type_width t) o i z
  signed_as Fixed z = refl
  signed_as Variable z = refl

  -- a signed integer that the type holds
  pub signed_writes : (i : IntEncoding) (z : ℤ) → signed_range (type_width t) z ≡ true → SignedStands (type_width t) o i (joined (signed_writing (type_width t) o i z)) z
  signed_writes i z r =
      let w = type_width t in
      let some : 1 ≤ w = let two = two_fit (width_of t) in omega arith in
      let n = going w i z in
      record {
        goes_as = n;
        stands = subst (λ ps. UnsignedStands w o i (joined ps) n) (signed_as i z) (unsigned_writes i n (going_fits w i z some r));
        turned = going_back w i z some r;
      }

-- ---- the other scalars

-- a byte
pub byte_writes : (n : ℕ) → ByteStands (joined ((n ∷ []) ∷ [])) n
byte_writes n = refl

-- a truth value
pub truth_writes : (b : Bool) → TruthStands (joined ((cond b 1 0 ∷ []) ∷ [])) b
truth_writes true = TruthStands.truth
truth_writes false = TruthStands.falsehood

-- a double of 64 bits
pub double_writes : (o : Endianness) (d : F64) → d.bits < 256 ^ 8 → DoubleStands o (joined (bytes o 8 d.bits ∷ [])) d
double_writes o d h =
    subst (λ y. DoubleStands o y d) (sym (append-nil (bytes o 8 d.bits))) (record { eight = length_bytes o 8 d.bits; bits = number_bytes o 8 d.bits h })

-- a duration whose seconds are a number of 64 bits
pub duration_writes : (o : Endianness) (i : IntEncoding) (d : Duration) → unsigned_range 8 d.secs ≡ true → DurationStands o i (joined (unsigned_writing 8 o i d.secs ++ unsigned_writing 4 o i d.nanos)) d
duration_writes o i d r =
    let below = d.ok in
    let fits : d.secs < 256 ^ 8 = ltb-true d.secs (256 ^ 8) r in
    record {
      first = joined (unsigned_writing 8 o i d.secs);
      second = joined (unsigned_writing 4 o i d.nanos);
      secs = d.secs;
      nanos = d.nanos;
      in_a_row = sym (joined_append (unsigned_writing 8 o i d.secs) (unsigned_writing 4 o i d.nanos));
      seconds = unsigned_writes U64 o i d.secs fits;
      nanoseconds = unsigned_writes U32 o i d.nanos (omega arith);
      value = carried_own d;
      fits = fits;
    }

-- ---- the compound types, from the writings ps and qs of their parts

module _ {A : Type 0} (S : List ℕ → A → Type 0) where
  -- an option: its byte, and then the value's writing if there is one
  pub none_writes : OptionStands S (joined ((0 ∷ []) ∷ [])) None
  none_writes = OptionStands.none

  pub some_writes : (ps : List (List ℕ)) (v : A) → S (joined ps) v → OptionStands S (joined ((1 ∷ []) ∷ ps)) (Some v)
  some_writes ps v h = OptionStands.some h

  -- a bound: its tag, and then the value's writing if there is one
  module _ (o : Endianness) (i : IntEncoding) where
    pub unbounded_writes : BoundStands o i S (joined (unsigned_writing 4 o i 0)) Unbounded
    unbounded_writes = BoundStands.unbounded (unsigned_writes U32 o i 0 (omega arith))

    pub included_writes : (ps : List (List ℕ)) (v : A) → S (joined ps) v → BoundStands o i S (joined (unsigned_writing 4 o i 1 ++ ps)) (Included v)
    included_writes ps v h =
        subst (λ z. BoundStands o i S z (Included v)) (sym (joined_append (unsigned_writing 4 o i 1) ps)) (BoundStands.included (unsigned_writes U32 o i 1 (omega arith)) h)

    pub excluded_writes : (ps : List (List ℕ)) (v : A) → S (joined ps) v → BoundStands o i S (joined (unsigned_writing 4 o i 2 ++ ps)) (Excluded v)
    excluded_writes ps v h =
        subst (λ z. BoundStands o i S z (Excluded v)) (sym (joined_append (unsigned_writing 4 o i 2) ps)) (BoundStands.excluded (unsigned_writes U32 o i 2 (omega arith)) h)

module _ {A B : Type 0} (S : List ℕ → A → Type 0) (U : List ℕ → B → Type 0) where
  -- a result: its tag, and then the value's writing
  pub ok_writes : (o : Endianness) (i : IntEncoding) (ps : List (List ℕ)) (v : A) → S (joined ps) v → ResultStands o i S U (joined (unsigned_writing 4 o i 0 ++ ps)) (Ok v)
  ok_writes o i ps v h =
      subst (λ z. ResultStands o i S U z (Ok v)) (sym (joined_append (unsigned_writing 4 o i 0) ps)) (ResultStands.ok (unsigned_writes U32 o i 0 (omega arith)) h)

  pub err_writes : (o : Endianness) (i : IntEncoding) (ps : List (List ℕ)) (w : B) → U (joined ps) w → ResultStands o i S U (joined (unsigned_writing 4 o i 1 ++ ps)) (Err w)
  err_writes o i ps w h =
      subst (λ z. ResultStands o i S U z (Err w)) (sym (joined_append (unsigned_writing 4 o i 1) ps)) (ResultStands.err (unsigned_writes U32 o i 1 (omega arith)) h)

  -- two values in a row
  pub pair_writes : (ps qs : List (List ℕ)) (v : A) (w : B) → S (joined ps) v → U (joined qs) w → PairStands S U (joined (ps ++ qs)) (v, w)
  pair_writes ps qs v w h k = subst (λ z. PairStands S U z (v, w)) (sym (joined_append ps qs)) (PairStands.pair h k)
