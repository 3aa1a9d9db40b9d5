-- What a call that reads has to do with the bytes that stand for a value.
use Rattle.std.specs.Prelude.{◌≡◌, ℕ, List, ◌++◌, Ok, Err, Option, Result}
use Rattle.format.specs.declared.error.DecodeError.{DecodeError}
use Rattle.readings.specs.Claims.{Granted}

-- where a value was given, the bytes that the call consumed, which stood before those that wait afterwards, stand for it
abbrev pub Stood : {A : Type 0} → (List ℕ → A → Type 0) → List ℕ → Result A DecodeError → List ℕ → Type 0
Stood S before (Ok v) after = (bs : List ℕ) × ((before ≡ bs ++ after) × S bs v)
Stood S before (Err x) after = Unit {0}

-- where bytes that stand for a value begin what waits, and the value's claim is granted, the call gives that value and consumes just these bytes
abbrev pub Found : {A : Type 0} → (List ℕ → A → Type 0) → (A → ℕ) → Option ℕ → ℕ → List ℕ → Result A DecodeError → List ℕ → Type 0
Found {A} S claim limit count before res after = (bs rest : List ℕ) (v : A) → S bs v → before ≡ bs ++ rest → Granted limit count (claim v) → (res ≡ Ok v) × (after ≡ rest)
