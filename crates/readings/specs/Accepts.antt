-- The other way round from `Returns`: what an accepted reading used stands for its value.
use Rattle.std.specs.Prelude.{◌≡◌, ℕ, List, take}
use Rattle.format.specs.Refusals.{given}
use Rattle.readings.specs.Readings.{Source, Reading}

-- **Accept**: where the reading gives a value, S holds of the bytes that it used and that value
abbrev pub Accepts : {A : Type 0} → Reading A → (List ℕ → A → Type 0) → Type 0
Accepts {A} f S = (s : Source) (v : A) → (f s).answer ≡ given v → S (take (f s).used s.waiting) v
