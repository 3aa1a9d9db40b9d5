-- The steps of a character's reading, as a decoder's calls do them.
use Rattle.std.proofs.Common.{◌≡◌, ℕ, suc, ◌-◌, ◌<◌, ◌≤◌, eqb, List, [], ◌∷◌, ◌++◌, length, take, Ok, Err, Result, sym, refl, ap, ◌∙◌, subst, arith, length-take}
use Rattle.format.specs.Refusals.{answer, decode_refusal}
use Rattle.format.specs.WellFormed.{form_width}
use Rattle.format.specs.declared.error.DecodeError.{DecodeError}
use Rattle.format.specs.declared.scalar.Char.{Char}
use Rattle.interfaces.proofs.Doing.{did_then, did_stop, did_is}
use Rattle.interfaces.specs.Decodes.{Did}
use Rattle.interfaces.specs.Policies.{PolicyMeaning}
use Rattle.interfaces.specs.Readers.{ReaderMeaning, ReaderLaws}
use Rattle.readings.proofs.Charges.{claiming_within, taking_within}
use Rattle.readings.proofs.Chars.{judging_within, after_claim_within}
use Rattle.readings.specs.Chars.{judged_char, judging, after_claim, after_first}
use Rattle.readings.specs.Readings.{claiming, taking}
use Rattle.std.proofs.lemmas.List.{take_at}
use Rattle.std.proofs.lemmas.Bool.{cond-false, ne_eqb}

-- the first byte and those that were read, out of a longer row
pub first_and : (w a : ℕ) (new rest : List ℕ) → 1 ≤ w → length new ≡ w - 1 → take w (a ∷ (new ++ rest)) ≡ a ∷ new
first_and w a new rest h e = let k : w ≡ suc (length new) = omega arith in ap (λ n. take n (a ∷ (new ++ rest))) k ∙ ap (λ xs. a ∷ xs) (take_at new rest (length new) refl)

-- a buffer for the other bytes
pub zeros : (w : ℕ) → w ≤ 4 → length {A = ℕ} (take (w - 1) (0 ∷ 0 ∷ 0 ∷ [])) ≡ w - 1
zeros w h = simp length-take (omega arith)

module _ {R : Type 0} {m : ReaderMeaning R} (laws : ReaderLaws m) {p : PolicyMeaning} (a w : ℕ) (some : 0 < w) (wide : w ≡ form_width a) where
  -- the claim was granted, and then came the rest
  pub did_after_first : {r : R} {n : ℕ} {r₁ : R} {n₁ : ℕ} {res : Result Char DecodeError} {r₂ : R} {n₂ : ℕ} → Did (claiming w) p m r n (Ok tt) r₁ n₁ → Did (after_claim a) p m r₁ n₁ res r₂ n₂ → Did (after_first a) p m r n res r₂ n₂
  did_after_first d e =
      did_is (sym (cond-false (eqb (form_width a) 0) _ _ (ne_eqb (form_width a) 0 (λ z. omega arith))))
      (did_then laws (λ _. after_claim a) (claiming_within (form_width a)) (λ _. after_claim_within a) (did_is (ap claiming wide) d) e)

  -- the other bytes were read, and all were judged
  pub did_judged : (k : ℕ) {bs : List ℕ} {r : R} {n : ℕ} {r₁ : R} {n₁ : ℕ} {res : Result Char DecodeError} → k ≡ w - 1 → Did (taking k) p m r n (Ok bs) r₁ n₁ → answer decode_refusal (λ c. c) res ≡ judged_char (a ∷ bs) → Did (after_claim a) p m r n res r₁ n₁
  did_judged k {bs} {r} {n} {r₁} e d j =
      did_then laws (λ xs. judging (a ∷ xs)) (taking_within (form_width a - 1)) (λ xs. judging_within (a ∷ xs)) (did_is (ap taking (e ∙ ap (λ x. x - 1) wide)) d)
      (record { answers = j; holds = sym (laws.nothing r₁); counts = refl })

  -- too few other bytes wait
  pub did_unread : (k : ℕ) {x : DecodeError} {r : R} {n : ℕ} {r₁ : R} {n₁ : ℕ} {res : Result Char DecodeError} → k ≡ w - 1 → res ≡ Err x → Did (taking k) p m r n (Err x) r₁ n₁ → Did (after_claim a) p m r n res r₁ n₁
  did_unread k {x} {r} {n} {r₁} {n₁} e q d =
      subst (λ (y : Result Char DecodeError). Did (after_claim a) p m r n y r₁ n₁) (sym q) (did_stop (λ xs. judging (a ∷ xs)) (did_is (ap taking (e ∙ ap (λ y. y - 1) wide)) d))
