-- What is known of a reading that gave a value.
use Rattle.std.proofs.Common.{◌≡◌, ℕ, ◌+◌, ◌-◌, ◌≤◌, Bool, true, false, cond, leb, List, [], ◌∷◌, length, take, refl, arith, leb-true}
use Rattle.format.specs.Refusals.{Answer, given, refused, refusal}
use Rattle.readings.specs.Readings.{Source, Outcome, outcome, Reading, taking, moved, resumed, ◌then◌}

-- the first gave a value, and the second gave the whole's from what was left
pub record ThenGave {A B : Type 0} (f : Reading A) (g : A → Reading B) (s : Source) (w : B) : Type 0 where
  pub value : A
  pub first : (f s).answer ≡ given value
  pub second : (g value (moved (f s).used (f s).counted s)).answer ≡ given w
  pub used : ((f then g) s).used ≡ (f s).used + (g value (moved (f s).used (f s).counted s)).used

pub then_gave : {A B : Type 0} (f : Reading A) (g : A → Reading B) (s : Source) (w : B) → ((f then g) s).answer ≡ given w → ThenGave f g s w
then_gave {A} {B} f g s w e = by (f s).answer refl e
  where
    by : (a : Answer A) → (f s).answer ≡ a → (resumed g s a (f s).used (f s).counted).answer ≡ given w → ThenGave f g s w
    by (given v) p q = record { value = v; first = p; second = q; used = λ i. (resumed g s (p i) (f s).used (f s).counted).used }
    by (refused z) p q = let k : ◌≡◌ {A = ℕ} 0 1 = cc in absurd (omega arith)

-- the bytes are those that waited, and as many are used
pub record TakingGave (n : ℕ) (s : Source) (v : List ℕ) : Type 0 where
  pub value : v ≡ take n s.waiting
  pub fits : n ≤ length s.waiting
  pub used : (taking n s).used ≡ n

pub taking_gave : (n : ℕ) (s : Source) (v : List ℕ) → (taking n s).answer ≡ given v → TakingGave n s v
taking_gave n s v e = by (leb n (length s.waiting)) refl e
  where
    on : Bool → Outcome (List ℕ)
    on b = cond b (outcome (given (take n s.waiting)) n s.count) (outcome (refused (refusal 2 ((n - length s.waiting) ∷ []))) 0 s.count)

    by : (b : Bool) → leb n (length s.waiting) ≡ b → (on b).answer ≡ given v → TakingGave n s v
    by true p q = record { value = cc; fits = leb-true n (length s.waiting) p; used = λ i. (on (p i)).used }
    by false p q = let k : ◌≡◌ {A = ℕ} 0 1 = cc in absurd (omega arith)
