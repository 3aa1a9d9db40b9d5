-- What each word uses, and what it pays for.
use Rattle.std.proofs.Common.{◌≡◌, ℕ, ◌+◌, ◌-◌, ◌*◌, ◌≤◌, Bool, true, false, cond, leb, [], ◌∷◌, length, take, Some, refl, arith, length-drop, leb-true}
use Rattle.format.specs.Refusals.{Answer, given, refused, refusal}
use Rattle.readings.proofs.Claims.{claim_pays}
use Rattle.readings.specs.Claims.{judged, capped}
use Rattle.readings.specs.Laws.{accepted}
use Rattle.readings.specs.Readings.{Source, Outcome, outcome, Reading, giving, granting, claiming, taking, moved, resumed, ◌then◌}
use Rattle.std.proofs.lemmas.Bool.{cond_both}

-- what a reading uses waits
abbrev pub Within : {A : Type 0} → Reading A → Type 0
Within f = (s : Source) → (f s).used ≤ length s.waiting

-- the charge, of one outcome
abbrev pub Paid : {A : Type 0} → ℕ → ℕ → ℕ → ℕ → ℕ → Outcome A → Type 0
Paid free have left l c o = 3 * capped l c + 2 * o.used + cond (accepted o.answer) left 0 ≤ 3 * capped l o.counted + have + cond (accepted o.answer) 0 free

abbrev pub Pays : {A : Type 0} → ℕ → ℕ → ℕ → Reading A → Type 0
Pays free have left f = (s : Source) (l : ℕ) → s.limit ≡ Some l → Paid free have left l s.count (f s)

pub paid_weaker : {A : Type 0} (free have left free' have' left' l c : ℕ) (o : Outcome A) → free ≤ free' → have ≤ have' → left' ≤ left → Paid free have left l c o → Paid free' have' left' l c o
paid_weaker free have left free' have' left' l c o hf hh hl = by o.answer
  where
    by : {A : Type 0} (a : Answer A) → 3 * capped l c + 2 * o.used + cond (accepted a) left 0 ≤ 3 * capped l o.counted + have + cond (accepted a) 0 free → 3 * capped l c + 2 * o.used + cond (accepted a) left' 0 ≤ 3 * capped l o.counted + have' + cond (accepted a) 0 free'
    by (given a) h = omega arith
    by (refused z) h = omega arith

-- what was lent at the start and given back at the end is free where the reading refuses
pub paid_lent : {A : Type 0} (j l c : ℕ) (o : Outcome A) → Paid 0 j j l c o → Paid j 0 0 l c o
paid_lent j l c o = by o.answer
  where
    by : {A : Type 0} (a : Answer A) → 3 * capped l c + 2 * o.used + cond (accepted a) j 0 ≤ 3 * capped l o.counted + j + cond (accepted a) 0 0 → 3 * capped l c + 2 * o.used + cond (accepted a) 0 0 ≤ 3 * capped l o.counted + 0 + cond (accepted a) 0 j
    by (given a) h = omega arith
    by (refused z) h = omega arith

claim_accepted : (b : Bool) → accepted (granting b) ≡ b
claim_accepted true = refl
claim_accepted false = refl

pub claiming_pays : (free have n : ℕ) → Pays free have (have + 3 * n) (claiming n)
claiming_pays free have n s l e =
    rw e (rw (claim_accepted (judged (Some l) s.count n)) (claim_pays l s.count n have free))

pub taking_within : (n : ℕ) → Within (taking n)
taking_within n s = cond_both (leb n (length s.waiting)) (outcome (given (take n s.waiting)) n s.count) (outcome (refused (refusal 2 ((n - length s.waiting) ∷ []))) 0 s.count) (λ o. o.used ≤ length s.waiting) (leb-true n (length s.waiting)) (λ _. omega arith)

pub taking_pays : (free have n : ℕ) → Pays free (have + 2 * n) have (taking n)
taking_pays free have n s l e = cond_both (leb n (length s.waiting)) (outcome (given (take n s.waiting)) n s.count) (outcome (refused (refusal 2 ((n - length s.waiting) ∷ []))) 0 s.count) (Paid free (have + 2 * n) have l s.count) (λ _. omega arith) (λ _. omega arith)

module _ {A B : Type 0} (g : A → Reading B) where
  resumed_within : ((x : A) → Within (g x)) → (s : Source) (a : Answer A) (u c : ℕ) → u ≤ length s.waiting → (resumed g s a u c).used ≤ length s.waiting
  resumed_within k s (given x) u c h = let r = k x (moved u c s) in omega (arith, length-drop u s.waiting)
  resumed_within k s (refused z) u c h = h

  resumed_pays : (free have left rest : ℕ) → ((x : A) → Pays free left rest (g x)) → (s : Source) (l : ℕ) → s.limit ≡ Some l → (a : Answer A) (u c : ℕ) → 3 * capped l s.count + 2 * u + cond (accepted a) left 0 ≤ 3 * capped l c + have + cond (accepted a) 0 free → Paid free have rest l s.count (resumed g s a u c)
  resumed_pays free have left rest k s l e (given x) u c h = let r = k x (moved u c s) l e in omega arith
  resumed_pays free have left rest k s l e (refused z) u c h = omega arith

pub then_within : {A B : Type 0} (f : Reading A) (g : A → Reading B) → Within f → ((x : A) → Within (g x)) → Within (f then g)
then_within f g kf kg s = resumed_within g kg s (f s).answer (f s).used (f s).counted (kf s)

pub then_pays : {A B : Type 0} (free have left rest : ℕ) (f : Reading A) (g : A → Reading B) → Pays free have left f → ((x : A) → Pays free left rest (g x)) → Pays free have rest (f then g)
then_pays free have left rest f g kf kg s l e = resumed_pays g free have left rest kg s l e (f s).answer (f s).used (f s).counted (kf s l e)

pub claiming_within : (n : ℕ) → Within (claiming n)
claiming_within n s = omega arith

pub giving_within : {A : Type 0} (a : A) → Within (giving a)
giving_within a s = omega arith
