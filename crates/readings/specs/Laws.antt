-- What a reading owes: it returns what was written, it depends on the view in two marks of one refusal alone, and what it uses is paid for by claims.
use Rattle.std.specs.Prelude.{◌≡◌, ℕ, ◌+◌, ◌*◌, ◌<◌, ◌≤◌, min, Bool, true, false, cond, ◌⊎◌, List, [], ◌∷◌, ◌++◌, length, drop, Some, None, Option}
use Rattle.format.specs.Refusals.{Answer, given, refused, refusal, Refusal, type_number}
use Rattle.format.specs.declared.error.IntegerType.{IntegerType}
use Rattle.format.specs.declared.error.IntegerType.TheVariants.{U32, U64, I32, I64}
use Rattle.readings.specs.Claims.{after, Granted, capped}
use Rattle.readings.specs.Readings.{Source, Outcome, outcome, Reading}

-- whether an answer gives a value
abbrev pub accepted : {A : Type 0} → Answer A → Bool
accepted (given a) = true
accepted (refused z) = false

-- **Return**: where these bytes begin what waits, and the claim is granted, the reading gives the value, uses just these bytes and counts just the claim
abbrev pub Returns : {A : Type 0} → Reading A → List ℕ → ℕ → A → Type 0
Returns f bytes claim v =
    (s : Source) (rest : List ℕ) → s.waiting ≡ bytes ++ rest → Granted s.limit s.count claim →
    f s ≡ outcome (given v) (length bytes) (after s.limit s.count claim)

-- equal but for the view
pub record Same (s t : Source) : Type 0 where
  pub waiting : s.waiting ≡ t.waiting
  pub limit : s.limit ≡ t.limit
  pub count : s.count ≡ t.count

-- InvalidIntegerType (4)
abbrev pub too_wide : IntegerType → IntegerType → Refusal
too_wide expected found = refusal 4 (type_number expected ∷ type_number found ∷ [])

-- how the expected type may differ: a peek names U32 for U64 and I32 for I64, or the same
pub data Marks : IntegerType → IntegerType → Type 0 where
  equal : {t : IntegerType} → Marks t t
  unsigned : Marks U32 U64
  signed : Marks I32 I64

-- The two marks, where s peeked and t did not: both refuse a tag that is too wide, with the same type found, and differ only in the type expected and in
-- that t has used the tag. They can differ only if s had in view, after some bytes, what t had not.
pub record Marked {A : Type 0} (s t : Source) (x y : Outcome A) : Type 0 where
  pub near : IntegerType
  pub far : IntegerType
  pub found : IntegerType
  pub peeked : x.answer ≡ refused (too_wide near found)
  pub unpeeked : y.answer ≡ refused (too_wide far found)
  pub marks : Marks near far
  pub tag : y.used ≡ x.used + 1
  pub count : x.counted ≡ y.counted
  pub at : ℕ
  pub wanted : ℕ
  pub seen : wanted ≤ min (s.view at) (length (drop at s.waiting))
  pub unseen : min (t.view at) (length (drop at t.waiting)) < wanted

-- **Same sight**: equal, or the two marks, one way or the other
abbrev pub Alike : {A : Type 0} → Source → Source → Outcome A → Outcome A → Type 0
Alike s t x y = (x ≡ y) ⊎ (Marked s t x y ⊎ Marked t s y x)

-- What every reading keeps. A byte that is used costs two units, and each byte that is counted within the limit pays three. With `have` units at the start
-- it pays for what it uses and has `left` units left if it gives a value; where it refuses, `free` units more are free.
pub record Lawful {A : Type 0} (free have left : ℕ) (f : Reading A) : Type 0 where
  pub within : (s : Source) → (f s).used ≤ length s.waiting
  pub pays : (s : Source) (l : ℕ) → s.limit ≡ Some l → 3 * capped l s.count + 2 * (f s).used + cond (accepted (f s).answer) left 0 ≤ 3 * capped l (f s).counted + have + cond (accepted (f s).answer) 0 free
  pub alike : (s t : Source) → Same s t → Alike s t (f s) (f t)

-- **Charge**, of a call, by the bytes that waited before and after it and the counts before and after: under a limit l, twice the bytes consumed is at most three
-- times the rise in the smaller of count and limit, plus 2 where the call refused. It is said by sums, so that no difference is cut at 0.
abbrev pub Charged : Option ℕ → List ℕ → ℕ → Bool → List ℕ → ℕ → Type 0
Charged None before n ok after n' = Unit {0}
Charged (Some l) before n ok after n' = 3 * capped l n + 2 * length before ≤ 3 * capped l n' + 2 * length after + cond ok 0 2
