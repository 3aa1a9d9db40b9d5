-- A place past the end.
use Rattle.std.proofs.Common.{◌≡◌, ℕ, min, List, length, drop, sym, ap, ◌∙◌, inl, inr, arith}
use Rattle.std.proofs.lemmas.List.{drop_all}
use Rattle.std.proofs.lemmas.Bool.{cases_lt}

-- nothing is behind the end, so a place past it may be cut to it
pub drop_cut : (xs : List ℕ) (i : ℕ) → drop (min i (length xs)) xs ≡ drop i xs
drop_cut xs i = elim (cases_lt i (length xs)) [
  | inl h ↦ ap (λ n. drop n xs) (omega arith)
  | inr h ↦ ap (λ n. drop n xs) (omega arith) ∙ drop_all (length xs) xs (omega arith) ∙ sym (drop_all i xs h)
]
