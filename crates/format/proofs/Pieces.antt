-- Pieces in a row.
use Rattle.std.proofs.Common.{◌≡◌, ℕ, List, ◌++◌}
use Rattle.std.proofs.lemmas.List.Folds.{concat-append}
use Rattle.format.specs.Pieces.{joined}

-- the bytes of two writings in a row are those of the first and then those of the second
pub joined_append : (ps qs : List (List ℕ)) → joined (ps ++ qs) ≡ joined ps ++ joined qs
joined_append = concat-append
