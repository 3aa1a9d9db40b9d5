-- What a reader means, the laws that it owes, and what its calls answer and leave.
use Rattle.std.specs.Prelude.{◌≡◌, ℕ, ◌+◌, ◌-◌, ◌≤◌, min, cond, List, [], ◌∷◌, length, take, drop, Some, None, Option, Result, nat_le}
use Rattle.std.specs.Borrow.{Bor}
use Rattle.format.specs.Refusals.{answer, decode_refusal, given, refused, refusal}
use Rattle.format.specs.declared.error.DecodeError.{DecodeError}
use Rattle.std.specs.Option.{option_map}

-- the bytes that wait, how many of them can be seen at once, and what the reader becomes after k of them go
pub record ReaderMeaning (R : Type 0) : Type 0 where
  pub waiting : R → List ℕ
  pub view : R → ℕ
  pub gone : ℕ → R → R

-- the view is not above the waiting bytes' count; none going changes nothing; and, owed for bytes that wait: after k go the bytes behind them wait, and
-- a going and then b is a + b going
pub record ReaderLaws {R : Type 0} (m : ReaderMeaning R) : Type 0 where
  pub within : (r : R) → m.view r ≤ length (m.waiting r)
  pub nothing : (r : R) → m.gone 0 r ≡ r
  pub leaves : (k : ℕ) (r : R) → k ≤ length (m.waiting r) → m.waiting (m.gone k r) ≡ drop k (m.waiting r)
  pub adds : (a b : ℕ) (r : R) → a + b ≤ length (m.waiting r) → m.gone b (m.gone a r) ≡ m.gone (a + b) r

-- `read` fills its buffer from the front and those bytes go; where too few wait it refuses with how many are wanting, and neither changes
pub record Read {R : Type 0} (m : ReaderMeaning R) (r : R) (old : List ℕ) (res : Result Unit DecodeError) (r' : R) (new : List ℕ) : Type 0 where
  pub answers : answer decode_refusal (λ u. u) res ≡ cond (nat_le (length old) (length (m.waiting r))) (given tt) (refused (refusal 2 ((length old - length (m.waiting r)) ∷ [])))
  pub fills : new ≡ cond (nat_le (length old) (length (m.waiting r))) (take (length old) (m.waiting r)) old
  pub holds : r' ≡ cond (nat_le (length old) (length (m.waiting r))) (m.gone (length old) r) r

-- `peek_read` gives the first n bytes if as many are in view, and else none
abbrev pub Peeked : {R : Type 0} → ReaderMeaning R → R → ℕ → Option (Bor (List ℕ)) → Type 0
Peeked m r n res = option_map (λ x. x.now) res ≡ cond (nat_le n (m.view r)) (Some (take n (m.waiting r))) None

-- `consume` lets the smaller of n and the view go
abbrev pub Consumed : {R : Type 0} → ReaderMeaning R → R → ℕ → R → Type 0
Consumed m r n r' = r' ≡ m.gone (min n (m.view r)) r

-- `take_bytes` gives the next n bytes and those bytes go; where too few wait it refuses with how many are wanting, and nothing changes
pub record Taken {R : Type 0} (m : ReaderMeaning R) (r : R) (n : ℕ) (res : Result (Bor (List ℕ)) DecodeError) (r' : R) : Type 0 where
  pub answers : answer decode_refusal (λ x. x.now) res ≡ cond (nat_le n (length (m.waiting r))) (given (take n (m.waiting r))) (refused (refusal 2 ((n - length (m.waiting r)) ∷ [])))
  pub holds : r' ≡ cond (nat_le n (length (m.waiting r))) (m.gone n r) r
