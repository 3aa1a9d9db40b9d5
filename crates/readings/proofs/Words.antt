-- The laws of each word, and how `then` keeps them.
use Rattle.std.proofs.Common.{◌≡◌, ℕ, ◌+◌, ◌-◌, ◌*◌, ◌≤◌, Bool, true, false, cond, leb, List, [], ◌∷◌, ◌++◌, length, take, drop, Some, sym, refl, ap, ◌∙◌, subst, append_assoc, append-nil, add-zero, arith, length-append, le-leb}
use Rattle.format.specs.Refusals.{given, refused, refusal, Refusal}
use Rattle.readings.proofs.Charges.{Paid, paid_weaker, paid_lent, claiming_pays, taking_within, taking_pays, then_within, then_pays}
use Rattle.readings.proofs.Claims.{after_none, granted_first, granted_second, after_both}
use Rattle.readings.proofs.Sights.{Agree, blind_sees, then_sees, looking_sees, peeking_sees}
use Rattle.readings.specs.Claims.{judged, after}
use Rattle.readings.specs.Laws.{Returns, Lawful}
use Rattle.readings.specs.Readings.{Source, Outcome, outcome, Reading, giving, refusing, granting, claiming, taking, looking, in_view, peeking, moved, resumed, ◌then◌}
use Rattle.std.proofs.lemmas.List.{drop_at, take_at}
use Rattle.std.proofs.lemmas.Bool.{cond-true, cond_both}

-- ---- what every reading keeps

pub weaker : {A : Type 0} (f : Reading A) (free have left free' have' left' : ℕ) → free ≤ free' → have ≤ have' → left' ≤ left → Lawful free have left f → Lawful free' have' left' f
weaker f free have left free' have' left' hf hh hl k = record {
  within = k.within;
  pays = λ s l e. paid_weaker free have left free' have' left' l s.count (f s) hf hh hl (k.pays s l e);
  alike = k.alike;
}

-- a byte that is used before it is claimed is lent, and given back at the end; where the reading refuses it is free
pub lent : {A : Type 0} (f : Reading A) (j : ℕ) → Lawful 0 j j f → Lawful j 0 0 f
lent f j k = record { within = k.within; pays = λ s l e. paid_lent j l s.count (f s) (k.pays s l e); alike = k.alike }

pub giving_lawful : {A : Type 0} (free have : ℕ) (a : A) → Lawful free have have (giving a)
giving_lawful free have a = record {
  within = λ s. omega arith;
  pays = λ s l e. omega arith;
  alike = blind_sees (λ w l c. outcome (given a) 0 c);
}

pub refusing_lawful : {A : Type 0} (free have left : ℕ) (z : Refusal) → Lawful {A = A} free have left (refusing z)
refusing_lawful {A} free have left z = record {
  within = λ s. omega arith;
  pays = λ s l e. omega arith;
  alike = blind_sees {A = A} (λ w l c. outcome (refused z) 0 c);
}

pub claiming_lawful : (free have n : ℕ) → Lawful free have (have + 3 * n) (claiming n)
claiming_lawful free have n = record {
  within = λ s. omega arith;
  pays = claiming_pays free have n;
  alike = blind_sees (λ w l c. outcome (granting (judged l c n)) 0 (after l c n));
}

pub taking_lawful : (free have n : ℕ) → Lawful free (have + 2 * n) have (taking n)
taking_lawful free have n = record {
  within = taking_within n;
  pays = taking_pays free have n;
  alike = blind_sees (λ w l c. cond (leb n (length w)) (outcome (given (take n w)) n c) (outcome (refused (refusal 2 ((n - length w) ∷ []))) 0 c));
}

pub looking_lawful : {A : Type 0} (free have left : ℕ) (g : ℕ → Reading A) → ((x : ℕ) → Lawful free have left (g x)) → Lawful free have left (looking g)
looking_lawful free have left g k = record {
  within = λ s. (k _).within s;
  pays = λ s. (k _).pays s;
  alike = looking_sees g (λ x. (k x).alike);
}

pub peeking_lawful : {A : Type 0} (free have left n : ℕ) (near far : Reading A) → Lawful free have left near → Lawful free have left far → Agree n near far → Lawful free have left (peeking n near far)
peeking_lawful free have left n near far kn kf agree = record {
  within = λ s. cond_both (leb n (in_view s)) (near s) (far s) (λ o. o.used ≤ length s.waiting) (λ _. kn.within s) (λ _. kf.within s);
  pays = λ s l e. peeking_pays s l e (leb n (in_view s));
  alike = peeking_sees n near far kn.alike kf.alike agree;
}
  where
    peeking_pays : (s : Source) (l : ℕ) → s.limit ≡ Some l → (b : Bool) → Paid free have left l s.count (cond b (near s) (far s))
    peeking_pays s l e true = kn.pays s l e
    peeking_pays s l e false = kf.pays s l e

pub then_lawful : {A B : Type 0} (free have left rest : ℕ) (f : Reading A) (g : A → Reading B) → Lawful free have left f → ((x : A) → Lawful free left rest (g x)) → Lawful free have rest (f then g)
then_lawful free have left rest f g kf kg = record {
  within = then_within f g kf.within (λ x. (kg x).within);
  pays = then_pays free have left rest f g kf.pays (λ x. (kg x).pays);
  alike = then_sees g f kf.alike (λ x. (kg x).alike);
}

-- ---- what is written is returned

pub giving_returns : {A : Type 0} (v : A) → Returns (giving v) [] 0 v
giving_returns v s rest there granted = ap (outcome (given v) 0) (sym (after_none s.limit s.count))

pub claiming_returns : (n : ℕ) → Returns (claiming n) [] n tt
claiming_returns n s rest there granted = ap (λ b. outcome (granting b) 0 (after s.limit s.count n)) granted

pub taking_returns : (n : ℕ) (x : List ℕ) → length x ≡ n → Returns (taking n) x 0 x
taking_returns n x e s rest there granted =
    let fits : n ≤ length s.waiting = rw there (simp length-append (omega arith)) in
    let got : take n s.waiting ≡ x = ap (take n) there ∙ take_at x rest n e in
    cond-true (leb n (length s.waiting)) _ _ (le-leb n (length s.waiting) fits) ∙ (λ i. outcome (given (got i)) (sym e i) (sym (after_none s.limit s.count) i))

pub then_returns : {A B : Type 0} (f : Reading A) (g : A → Reading B) (v : A) (w : B) (x y : List ℕ) (a b : ℕ) → Returns f x a v → Returns (g v) y b w → Returns (f then g) (x ++ y) (a + b) w
then_returns {A} {B} f g v w x y a b hf hg s rest there granted =
    let l = s.limit in
    let c = s.count in
    let c₁ = after l c a in
    let at_x : s.waiting ≡ x ++ (y ++ rest) = there ∙ append_assoc x y rest in
    let one : f s ≡ outcome (given v) (length x) c₁ = hf s (y ++ rest) at_x (granted_first l c a b granted) in
    let two : g v (moved (length x) c₁ s) ≡ outcome (given w) (length y) (after l c₁ b) = hg (moved (length x) c₁ s) rest (ap (drop (length x)) at_x ∙ drop_at x (y ++ rest) (length x) refl) (granted_second l c a b granted) in
    ap (λ (o : Outcome A). resumed g s o.answer o.used o.counted) one
    ∙ ap (λ (o : Outcome B). outcome o.answer (length x + o.used) o.counted) two
    ∙ (λ i. outcome (given w) (sym (length-append x y) i) (after_both l c a b granted i))

-- where all that is claimed is claimed first
pub claimed_returns : {A : Type 0} (n : ℕ) (f : Reading A) (v : A) (x : List ℕ) → Returns f x 0 v → Returns (claiming n then (λ _. f)) x n v
claimed_returns n f v x h = subst (λ k. Returns (claiming n then (λ _. f)) x k v) (add-zero n) (then_returns (claiming n) (λ _. f) tt v [] x n 0 (claiming_returns n) h)

-- where the second uses nothing and claims nothing
pub ended_returns : {A B : Type 0} (f : Reading A) (g : A → Reading B) (v : A) (w : B) (x : List ℕ) (n : ℕ) → Returns f x n v → Returns (g v) [] 0 w → Returns (f then g) x n w
ended_returns f g v w x n hf hg =
    subst (λ k. Returns (f then g) x k w) (add-zero n) (subst (λ z. Returns (f then g) z (n + 0) w) (append-nil x) (then_returns f g v w x [] n 0 hf hg))

-- a value that is made of what was read
pub made_returns : {A B : Type 0} (f : Reading A) (h : A → B) (v : A) (x : List ℕ) (n : ℕ) → Returns f x n v → Returns (f then (λ y. giving (h y))) x n (h v)
made_returns f h v x n hf = ended_returns f (λ y. giving (h y)) v (h v) x n hf (giving_returns (h v))
