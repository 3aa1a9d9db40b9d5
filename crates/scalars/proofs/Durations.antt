-- Durations that are made of what was read.
use Rattle.std.proofs.Common.{◌≡◌, ℕ, ◌+◌, ◌/◌, ◌%◌, ◌^◌, Bool, true, false, cond, ltb, [], ◌∷◌, sym, refl, ap, ◌∙◌, arith}
use Rattle.format.proofs.Durations.{same_duration}
use Rattle.format.specs.Durations.{duration_parts, carried, made_duration}
use Rattle.format.specs.Refusals.{Answer, given, refused, refusal}
use Rattle.format.specs.declared.duration.Duration.{Duration}
use Rattle.format.specs.Integers.{unsigned_range}
use Rattle.format.specs.declared.config.Endianness.{Endianness}
use Rattle.format.specs.declared.config.IntEncoding.{IntEncoding}
use Rattle.format.specs.declared.error.IntegerType.TheVariants.{U32}
use Rattle.readings.proofs.Charges.{Within, giving_within, then_within}
use Rattle.readings.proofs.Integers.{integer_lawful}
use Rattle.readings.specs.Integers.{integer_reading}
use Rattle.readings.specs.Readings.{Reading, giving}
use Rattle.readings.specs.Scalars.{duration_of, duration_after}
use Rattle.std.proofs.lemmas.Bool.{cond-true, cond_both}

module _ (secs nanos : ℕ) (d : Duration) where
  by : (b : Bool) → given (duration_parts d) ≡ cond b (given (secs + nanos / 1000000000, nanos % 1000000000)) (refused (refusal 9 (secs ∷ nanos ∷ []))) → (b ≡ true) × (d ≡ carried secs nanos)
  by true e = (refl, same_duration d (carried secs nanos) (ap (λ p. p.0) (parts e)) (ap (λ p. p.1) (parts e)))
    where
      parts : {x y : ℕ × ℕ} → ◌≡◌ {A = Answer (ℕ × ℕ)} (given x) (given y) → x ≡ y
      parts e = cc
  by false e = let z : ◌≡◌ {A = ℕ} 0 1 = cc in absurd (omega arith)

  -- one that was made is the one that is carried, and its seconds fit
  pub made_carried : given (duration_parts d) ≡ made_duration secs nanos → (ltb (secs + nanos / 1000000000) (2 ^ 64) ≡ true) × (d ≡ carried secs nanos)
  made_carried e = by (ltb (secs + nanos / 1000000000) (2 ^ 64)) e

  pub made_judged : given (duration_parts d) ≡ made_duration secs nanos → giving d ≡ duration_of secs nanos
  made_judged e = let m = made_carried e in ap giving m.1 ∙ sym (cond-true (ltb (secs + nanos / 1000000000) (2 ^ 64)) _ _ m.0)

  pub made_range : given (duration_parts d) ≡ made_duration secs nanos → unsigned_range 8 d.secs ≡ true
  made_range e = let m = made_carried e in ap (λ (x : Duration). ltb x.secs (2 ^ 64)) m.1 ∙ m.0

-- what is used waits
pub judged_within : (secs nanos : ℕ) → Within (duration_of secs nanos)
judged_within secs nanos = cond_both {A = Reading Duration} (ltb (secs + nanos / 1000000000) (2 ^ 64)) _ _ Within (λ _. giving_within (carried secs nanos)) (λ _ s. omega arith)

pub after_within : (o : Endianness) (i : IntEncoding) (secs : ℕ) → Within (duration_after o i secs)
after_within o i secs = then_within (integer_reading U32 o i) (duration_of secs) (integer_lawful U32 o i).within (judged_within secs)
