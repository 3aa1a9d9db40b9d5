-- The laws of claims.
use Rattle.std.proofs.Common.{◌≡◌, ℕ, ◌+◌, ◌*◌, ◌^◌, ◌<◌, ◌≤◌, min, Bool, true, false, cond, ◌&&◌, ltb, leb, Some, None, Option, sym, refl, ap, ◌∙◌, add-zero, add_assoc, arith, ltb-true, lt-ltb, le-leb, leb-true}
use Rattle.readings.specs.Claims.{judged, after, Granted, capped}
use Rattle.std.proofs.lemmas.Bool.{cond-true}

-- what a granted claim says of the count
pub record Fits (l c n : ℕ) : Type 0 where
  pub word : c + n < 2 ^ 64
  pub limit : c + n ≤ l

both_true : (a b : Bool) → (a && b) ≡ true → (a ≡ true) × (b ≡ true)
both_true true true e = (refl, refl)
both_true true false e = let z : ◌≡◌ {A = ℕ} 0 1 = cc in absurd (omega arith)
both_true false b e = let z : ◌≡◌ {A = ℕ} 0 1 = cc in absurd (omega arith)

pub fits_from : (l c n : ℕ) → Granted (Some l) c n → Fits l c n
fits_from l c n g = let h = both_true (ltb (c + n) (2 ^ 64)) (leb (c + n) l) g in record { word = ltb-true (c + n) (2 ^ 64) h.0; limit = leb-true (c + n) l h.1 }

pub granted_from : (l c n : ℕ) → Fits l c n → Granted (Some l) c n
granted_from l c n h = (λ i. lt-ltb (c + n) (2 ^ 64) h.word i && le-leb (c + n) l h.limit i)

-- a claim that is granted is counted
pub after_granted : (l c n : ℕ) → Granted (Some l) c n → after (Some l) c n ≡ c + n
after_granted l c n g = cond-true (ltb (c + n) (2 ^ 64)) (c + n) c (lt-ltb (c + n) (2 ^ 64) (fits_from l c n g).word)

-- a claim of nothing counts nothing
pub after_none : (l : Option ℕ) (c : ℕ) → after l c 0 ≡ c
after_none None c = refl
after_none (Some l) c = by (ltb (c + 0) (2 ^ 64))
  where
    by : (b : Bool) → cond b (c + 0) c ≡ c
    by true = add-zero c
    by false = refl

-- a claim that is granted in one is granted in two parts, and counts the same
pub granted_first : (l : Option ℕ) (c a b : ℕ) → Granted l c (a + b) → Granted l c a
granted_first None c a b g = refl
granted_first (Some l) c a b g = let h = fits_from l c (a + b) g in granted_from l c a (record { word = omega (arith, h.word); limit = omega (arith, h.limit) })

pub granted_second : (l : Option ℕ) (c a b : ℕ) → Granted l c (a + b) → Granted l (after l c a) b
granted_second None c a b g = refl
granted_second (Some l) c a b g =
    let h = fits_from l c (a + b) g in
    let e = after_granted l c a (granted_first (Some l) c a b g) in
    granted_from l (after (Some l) c a) b (record { word = omega (arith, h.word, e); limit = omega (arith, h.limit, e) })

pub after_both : (l : Option ℕ) (c a b : ℕ) → Granted l c (a + b) → after l (after l c a) b ≡ after l c (a + b)
after_both None c a b g = refl
after_both (Some l) c a b g =
    after_granted l (after (Some l) c a) b (granted_second (Some l) c a b g)
    ∙ ap (λ x. x + b) (after_granted l c a (granted_first (Some l) c a b g))
    ∙ add_assoc c a b ∙ sym (after_granted l c (a + b) g)

-- what a claim pays: a granted one three units for each byte, and a refused one nothing is lost by
pub claim_pays : (l c n have free : ℕ) → 3 * capped l c + 2 * 0 + cond (judged (Some l) c n) (have + 3 * n) 0 ≤ 3 * capped l (after (Some l) c n) + have + cond (judged (Some l) c n) 0 free
claim_pays l c n have free = by (ltb (c + n) (2 ^ 64)) (leb (c + n) l) (leb-true (c + n) l)
  where
    by : (a b : Bool) → (b ≡ true → c + n ≤ l) → 3 * min c l + 2 * 0 + cond (a && b) (have + 3 * n) 0 ≤ 3 * min (cond a (c + n) c) l + have + cond (a && b) 0 free
    by true true h = let g = h refl in omega arith
    by true false h = omega arith
    by false b h = omega arith
