-- A list of a known length, element by element.
use Rattle.std.proofs.Common.{◌≡◌, ℕ, zero, suc, List, [], ◌∷◌, length, get_or, drop, refl, ap, arith}

-- the first n elements, picked one by one from place k on
abbrev pub picked : ℕ → List ℕ → List ℕ
picked zero a = []
picked (suc n) a = get_or a 0 0 ∷ picked n (drop 1 a)

pub row : (n : ℕ) (a : List ℕ) → length a ≡ n → a ≡ picked n a
row zero [] h = refl
row zero (x ∷ a) h = absurd (omega arith)
row (suc n) [] h = absurd (omega arith)
row (suc n) (x ∷ a) h = ap (λ xs. x ∷ xs) (row n a (omega arith))
