-- A reading goes from a source to an outcome. The readings of all types are written with the few words below.
use Rattle.std.specs.Prelude.{ℕ, ◌+◌, ◌-◌, min, Bool, cond, List, [], ◌∷◌, length, take, drop, Option, nat_le, slice_index}
use Rattle.format.specs.Refusals.{Answer, given, refused, Refusal, refusal}
use Rattle.readings.specs.Claims.{judged, after}

-- the bytes that wait, how many are in view after k of them have gone, the limit, and the count of claims
pub record Source : Type 0 where
  pub waiting : List ℕ
  pub view : ℕ → ℕ
  pub limit : Option ℕ
  pub count : ℕ

-- what is answered, how many bytes were used, and the count afterwards
pub record Outcome (A : Type 0) : Type 0 where
  pub answer : Answer A
  pub used : ℕ
  pub counted : ℕ

abbrev pub outcome : {A : Type 0} → Answer A → ℕ → ℕ → Outcome A
outcome a u c = record { answer = a; used = u; counted = c }

abbrev pub Reading : Type 0 → Type 0
Reading A = Source → Outcome A

-- gives a value, or refuses, and uses nothing
abbrev pub giving : {A : Type 0} → A → Reading A
giving a s = outcome (given a) 0 s.count

abbrev pub refusing : {A : Type 0} → Refusal → Reading A
refusing z s = outcome (refused z) 0 s.count

-- claims n bytes: LimitExceeded (3) where they are not granted
abbrev pub granting : Bool → Answer Unit
granting b = cond b (given tt) (refused (refusal 3 []))

abbrev pub claiming : ℕ → Reading Unit
claiming n s = outcome (granting (judged s.limit s.count n)) 0 (after s.limit s.count n)

-- takes n bytes in one read: UnexpectedEnd (2), with how many are wanting, where fewer wait
abbrev pub taking : ℕ → Reading (List ℕ)
taking n s =
    cond (nat_le n (length s.waiting)) (outcome (given (take n s.waiting)) n s.count) (outcome (refused (refusal 2 ((n - length s.waiting) ∷ []))) 0 s.count)

-- looks at the first byte that waits, without using it
abbrev pub looking : {A : Type 0} → (ℕ → Reading A) → Reading A
looking g s = g (slice_index s.waiting 0) s

-- how many bytes are in view
abbrev pub in_view : Source → ℕ
in_view s = min (s.view 0) (length s.waiting)

-- goes one way where n bytes are in view, and another where they are not
abbrev pub peeking : {A : Type 0} → ℕ → Reading A → Reading A → Reading A
peeking n near far s = cond (nat_le n (in_view s)) (near s) (far s)

-- the source after u bytes have gone, with another count
abbrev pub moved : ℕ → ℕ → Source → Source
moved u c s = record { waiting = drop u s.waiting; view = λ k. s.view (u + k); limit = s.limit; count = c }

-- goes on with a value that was given; a refusal stops
abbrev pub resumed : {A B : Type 0} → (A → Reading B) → Source → Answer A → ℕ → ℕ → Outcome B
resumed g s (given a) u c = outcome (g a (moved u c s)).answer (u + (g a (moved u c s)).used) (g a (moved u c s)).counted
resumed g s (refused z) u c = outcome (refused z) u c

infixr 30 ◌then◌
-- one reading and then another, which works on what is left
abbrev pub ◌then◌ : {A B : Type 0} → Reading A → (A → Reading B) → Reading B
◌then◌ f g s = resumed g s (f s).answer (f s).used (f s).counted
