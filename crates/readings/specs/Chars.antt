-- How a character is read: its first byte tells how many bytes it has; as many are claimed, the others are read, and all of them are judged.
use Rattle.std.specs.Prelude.{ℕ, ◌-◌, Bool, true, false, cond, T, List, [], ◌∷◌, ◌==◌, slice_index}
use Rattle.format.proofs.WellFormed.{well_formed_scalar}
use Rattle.format.specs.Refusals.{Answer, given, refused, Refusal, refusal}
use Rattle.format.specs.WellFormed.{form_width, well_formed, code_of}
use Rattle.format.specs.declared.scalar.Char.{Char}
use Rattle.readings.specs.Readings.{outcome, Reading, refusing, claiming, taking, ◌then◌}

-- goes one way where a test holds, which that way may use, and another where it does not
abbrev pub if_true : {X : Type 0} → (b : Bool) → (T b → X) → X → X
if_true true f x = f tt
if_true false f x = x

-- the character that well-formed bytes stand for
abbrev pub char_of : (bs : List ℕ) → T (well_formed bs) → Char
char_of bs h = record { code = code_of bs; ok = well_formed_scalar bs h }

-- InvalidCharEncoding (7): four bytes, of which those that were not read are 0
abbrev pub not_char : List ℕ → Refusal
not_char bs = refusal 7 (slice_index bs 0 ∷ slice_index bs 1 ∷ slice_index bs 2 ∷ slice_index bs 3 ∷ [])

-- the character if the bytes are well formed
abbrev pub judged_char : List ℕ → Answer Char
judged_char bs = if_true (well_formed bs) (λ h. given (char_of bs h)) (refused (not_char bs))

abbrev pub judging : List ℕ → Reading Char
judging bs s = outcome (judged_char bs) 0 s.count

-- after the first byte a and the claim: the other bytes in one read
abbrev pub after_claim : ℕ → Reading Char
after_claim a = taking (form_width a - 1) then (λ bs. judging (a ∷ bs))

-- after the first byte a: where no form begins with it, it is refused
abbrev pub after_first : ℕ → Reading Char
after_first a = cond (form_width a == 0) (refusing (not_char (a ∷ []))) (claiming (form_width a) then (λ _. after_claim a))

-- the first byte is read before any claim
abbrev pub char_reading : Reading Char
char_reading = taking 1 then (λ bs. after_first (slice_index bs 0))
