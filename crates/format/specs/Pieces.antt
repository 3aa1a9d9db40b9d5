-- A writing is a list of pieces, each a row of bytes.
use Rattle.std.specs.Prelude.{ℕ, List}
use Rattle.std.specs.List.{concat}

-- the bytes of all pieces in a row
abbrev pub joined : List (List ℕ) → List ℕ
joined = concat
