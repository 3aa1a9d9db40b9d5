-- What it is to offer a list of pieces to a writer, in order, up to the first that does not fit.
use Rattle.std.specs.Prelude.{◌≡◌, ℕ, ◌-◌, cond, List, [], ◌∷◌, length, Result, nat_le}
use Rattle.format.specs.Pieces.{joined}
use Rattle.format.specs.Refusals.{answer, encode_refusal}
use Rattle.format.specs.declared.error.EncodeError.{EncodeError}
use Rattle.interfaces.specs.Writers.{WriterMeaning, verdict}

-- the pieces before the first that does not fit what is still free of n bytes
abbrev pub leading : ℕ → List (List ℕ) → List (List ℕ)
leading n [] = []
leading n (p ∷ ps) = cond (nat_le (length p) n) (p ∷ leading (n - length p) ps) []

-- accepted exactly if all the pieces fit, and the writer then has taken exactly the pieces before the first that does not
pub record Offered {W : Type 0} (m : WriterMeaning W) (w : W) (pieces : List (List ℕ)) (r : Result Unit EncodeError) (w' : W) : Type 0 where
  pub answers : answer encode_refusal (λ u. u) r ≡ verdict (nat_le (length (joined pieces)) (m.free w))
  pub holds : w' ≡ m.takes (joined (leading (m.free w) pieces)) w
