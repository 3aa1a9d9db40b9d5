-- Laws of a run of stores.
use Rattle.std.specs.Prelude.{◌≡◌, ℕ, suc, ◌+◌, List, [], ◌∷◌, ◌++◌, length}
use Rattle.std.proofs.Common.{ap, ◌∙◌, add-zero, arith}
use Rattle.std.proofs.lemmas.List.Edits.{sets}

-- storing a, and then b behind it, is storing a joined to b
pub sets_append : (xs : List ℕ) (i : ℕ) (a b : List ℕ) → sets (sets xs i a) (i + length a) b ≡ sets xs i (a ++ b)
sets_append xs i [] b = ap (λ n. sets xs n b) (add-zero i)
sets_append xs i (x ∷ a) b = ap (λ n. sets (sets xs i (x ∷ a)) n b) (omega arith) ∙ sets_append _ (suc i) a b
