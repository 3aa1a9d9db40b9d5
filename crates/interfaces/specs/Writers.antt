-- What a writer means, the laws that it owes, and what `write` answers and leaves.
use Rattle.std.specs.Prelude.{◌≡◌, ℕ, ◌+◌, ◌≤◌, Bool, cond, List, [], ◌++◌, length, Result, nat_le}
use Rattle.format.specs.Refusals.{Answer, given, refused, refusal, answer, encode_refusal}
use Rattle.format.specs.declared.error.EncodeError.{EncodeError}

-- how many bytes are free, and what the writer becomes after taking some
pub record WriterMeaning (W : Type 0) : Type 0 where
  pub free : W → ℕ
  pub takes : List ℕ → W → W

-- owed for bytes within the free count: taking nothing changes nothing; taking a and then b is taking a joined to b; the free count falls by the bytes taken
pub record WriterLaws {W : Type 0} (m : WriterMeaning W) : Type 0 where
  pub nothing : (w : W) → m.takes [] w ≡ w
  pub joins : (a b : List ℕ) (w : W) → length a + length b ≤ m.free w → m.takes b (m.takes a w) ≡ m.takes (a ++ b) w
  pub falls : (a : List ℕ) (w : W) → length a ≤ m.free w → m.free (m.takes a w) + length a ≡ m.free w

-- what is answered where it is known whether the bytes fit
abbrev pub verdict : Bool → Answer Unit
verdict fits = cond fits (given tt) (refused (refusal 1 []))

-- `write` takes its bytes if they number at most the free count, and else refuses and changes nothing
pub record Written {W : Type 0} (m : WriterMeaning W) (w : W) (bytes : List ℕ) (r : Result Unit EncodeError) (w' : W) : Type 0 where
  pub answers : answer encode_refusal (λ u. u) r ≡ verdict (nat_le (length bytes) (m.free w))
  pub holds : w' ≡ cond (nat_le (length bytes) (m.free w)) (m.takes bytes w) w
