-- What each word used stands for its value, and how `then` keeps it.
use Rattle.std.proofs.Common.{◌≡◌, ℕ, ◌-◌, ◌≤◌, Bool, true, false, cond, leb, List, [], ◌∷◌, ◌++◌, length, get_or, take, sym, refl, subst, append-nil, arith, take-add}
use Rattle.format.specs.Refusals.{Answer, given, refused, refusal, Refusal}
use Rattle.readings.specs.Accepts.{Accepts}
use Rattle.readings.specs.Readings.{Source, outcome, Reading, giving, refusing, claiming, taking, looking, in_view, peeking, moved, resumed, ◌then◌}
use Rattle.std.proofs.lemmas.List.{length-take-le}
use Rattle.std.proofs.lemmas.Bool.{leb-true, cond_both}

-- a refusal gives nothing
refused_none : {A : Type 0} (z : Refusal) (v : A) → refused z ≡ given v → ⊥
refused_none z v e = let n : ◌≡◌ {A = ℕ} 0 1 = cc in omega arith

-- what a given value is
given_is : {A : Type 0} (a v : A) → given a ≡ given v → a ≡ v
given_is a v e = cc

-- what S implies stands too
pub implied_accepts : {A : Type 0} (f : Reading A) (S U : List ℕ → A → Type 0) → ((x : List ℕ) (v : A) → S x v → U x v) → Accepts f S → Accepts f U
implied_accepts f S U m k s v e = m (take (f s).used s.waiting) v (k s v e)

-- a given value uses nothing, and a refusal gives nothing
pub giving_accepts : {A : Type 0} (S : List ℕ → A → Type 0) (a : A) → S [] a → Accepts (giving a) S
giving_accepts S a h s v e = subst (S []) (given_is a v e) h

pub refusing_accepts : {A : Type 0} (S : List ℕ → A → Type 0) (z : Refusal) → Accepts (refusing z) S
refusing_accepts S z s v e = absurd (refused_none z v e)

-- a claim uses nothing
pub claiming_accepts : (n : ℕ) → Accepts (claiming n) (λ x _. x ≡ [])
claiming_accepts n s v e = refl

-- what is taken is what was used, as long as was asked for
pub taking_accepts : (n : ℕ) → Accepts (taking n) (λ x bs. (x ≡ bs) × (length bs ≡ n))
taking_accepts n s v = by (leb n (length s.waiting)) (leb-true n (length s.waiting))
  where
    by : (b : Bool) → (b ≡ true → n ≤ length s.waiting) →
        let x = cond b (outcome (given (take n s.waiting)) n s.count) (outcome (refused (refusal 2 ((n - length s.waiting) ∷ []))) 0 s.count) in
        x.answer ≡ given v → (take x.used s.waiting ≡ v) × (length v ≡ n)
    by true h e =
        let is = given_is (take n s.waiting) v e in
        (is, subst (λ z. length z ≡ n) is (length-take-le n s.waiting (h refl)))
    by false h e = absurd (refused_none (refusal 2 ((n - length s.waiting) ∷ [])) v e)

-- one of two readings, by a test
pub either_accepts : {A : Type 0} (S : List ℕ → A → Type 0) (b : Bool) (f g : Reading A) → (b ≡ true → Accepts f S) → (b ≡ false → Accepts g S) → Accepts (cond b f g) S
either_accepts {A} S b f g k j = cond_both {A = Reading A} b f g (λ h. Accepts h S) k j

-- by the first byte, and by what is in view
pub looking_accepts : {A : Type 0} (S : List ℕ → A → Type 0) (g : ℕ → Reading A) → ((x : ℕ) → Accepts (g x) S) → Accepts (looking g) S
looking_accepts S g k s = k (get_or s.waiting 0 0) s

pub peeking_accepts : {A : Type 0} (S : List ℕ → A → Type 0) (n : ℕ) (near far : Reading A) → Accepts near S → Accepts far S → Accepts (peeking n near far) S
peeking_accepts S n near far k j s v = by (leb n (in_view s))
  where
    by : (b : Bool) → (cond b (near s) (far s)).answer ≡ given v → S (take (cond b (near s) (far s)).used s.waiting) v
    by true e = k s v e
    by false e = j s v e

-- One reading and then another: what both used, in a row, stands for the second value, if the second reading's own bytes make it so behind any bytes that stand for the first.
module _ {A B : Type 0} (f : Reading A) (g : A → Reading B) (S : List ℕ → A → Type 0) (U : List ℕ → B → Type 0) where
  resumed_accepts : ((a : A) (x : List ℕ) → S x a → Accepts (g a) (λ y b. U (x ++ y) b)) → (s : Source) (w : B) (a : Answer A) (u c : ℕ) → ((v : A) → a ≡ given v → S (take u s.waiting) v) → (resumed g s a u c).answer ≡ given w → U (take (resumed g s a u c).used s.waiting) w
  resumed_accepts j s w (given a) u c k e =
      let t = moved u c s in
      subst (λ z. U z w) (sym (take-add u (g a t).used s.waiting)) (j a (take u s.waiting) (k a refl) t w e)
  resumed_accepts j s w (refused z) u c k e = absurd (refused_none z w e)

  pub then_accepts : Accepts f S → ((a : A) (x : List ℕ) → S x a → Accepts (g a) (λ y b. U (x ++ y) b)) → Accepts (f then g) U
  then_accepts k j s w = resumed_accepts j s w (f s).answer (f s).used (f s).counted (k s)

-- behind a claim
pub claimed_accepts : {A : Type 0} (n : ℕ) (f : Reading A) (S : List ℕ → A → Type 0) → Accepts f S → Accepts (claiming n then (λ _. f)) S
claimed_accepts {A} n f S k =
    then_accepts (claiming n) (λ _. f) (λ x _. x ≡ []) S (claiming_accepts n)
    (λ _ x e. subst (λ z. Accepts f (λ y b. S (z ++ y) b)) (sym e) k)

-- a value that is made of what was read
pub made_accepts : {A B : Type 0} (f : Reading A) (h : A → B) (S : List ℕ → A → Type 0) (U : List ℕ → B → Type 0) → Accepts f S → ((x : List ℕ) (a : A) → S x a → U x (h a)) → Accepts (f then (λ a. giving (h a))) U
made_accepts f h S U k m =
    then_accepts f (λ a. giving (h a)) S U k
    (λ a x c. giving_accepts (λ y b. U (x ++ y) b) (h a) (subst (λ z. U z (h a)) (sym (append-nil x)) (m x a c)))
