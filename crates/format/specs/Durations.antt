-- Spans of time: whole seconds, and fewer than 1,000,000,000 nanoseconds.
use Rattle.std.specs.Prelude.{ℕ, ◌+◌, ◌/◌, ◌%◌, ◌^◌, cond, [], ◌∷◌, nat_lt}
use Rattle.std.proofs.Common.{arith}
use Rattle.format.specs.Refusals.{Answer, given, refused, refusal}
use Rattle.format.specs.declared.duration.Duration.{Duration}

-- the seconds and the nanoseconds
abbrev pub duration_parts : Duration → ℕ × ℕ
duration_parts d = (d.secs, d.nanos)

-- the duration of so many seconds and nanoseconds, whole seconds carried out of the nanoseconds
abbrev pub carried : ℕ → ℕ → Duration
carried secs nanos = record { secs = secs + nanos / 1000000000; nanos = nanos % 1000000000; ok = omega arith }

-- what making one answers: whole seconds are carried out of the nanoseconds, and seconds past 2^64 - 1 are refused with both numbers as they came
abbrev pub made_duration : ℕ → ℕ → Answer (ℕ × ℕ)
made_duration secs nanos =
    cond (nat_lt (secs + nanos / 1000000000) (2 ^ 64)) (given (secs + nanos / 1000000000, nanos % 1000000000)) (refused (refusal 9 (secs ∷ nanos ∷ [])))
