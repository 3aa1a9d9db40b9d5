-- When two durations are equal.
use mathlib.Core.HLevel.{is_prop→PathP}
use Rattle.std.proofs.Common.{◌≡◌, ◌<◌, arith}
use native.Mathlib.Bridge.{le_prop}
use Rattle.format.specs.Durations.{carried}
use Rattle.format.specs.declared.duration.Duration.{Duration}

-- the fact in the ghost field has one proof, so only the seconds and the nanoseconds are compared
pub same_duration : (d e : Duration) → d.secs ≡ e.secs → d.nanos ≡ e.nanos → d ≡ e
same_duration d e p q i = record { secs = p i; nanos = q i; ok = is_prop→PathP (λ k. q k < 1000000000) (λ k. le_prop) d.ok e.ok i }

-- a duration's own numbers carry nothing
pub carried_own : (d : Duration) → carried d.secs d.nanos ≡ d
carried_own d = let h = d.ok in same_duration (carried d.secs d.nanos) d (omega arith) (omega arith)
