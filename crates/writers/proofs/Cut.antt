-- A place past the end.
use Rattle.std.proofs.Common.{◌≡◌, ℕ, ◌-◌, ◌≤◌, min, List, [], ◌∷◌, length, refl, ap, arith}
use lib.Seq.{sets}

-- where the bytes fit behind the place, the place may be cut to the end
pub sets_cut : (xs : List ℕ) (i : ℕ) (a : List ℕ) → length a ≤ length xs - i → sets xs (min i (length xs)) a ≡ sets xs i a
sets_cut xs i [] h = refl
sets_cut xs i (x ∷ a) h = ap (λ n. sets xs n (x ∷ a)) (omega arith)
