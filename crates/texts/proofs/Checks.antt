-- The steps of judging bytes as text: k bytes are text, and `rest` are the others.
use Rattle.std.proofs.Common.{◌≡◌, ℕ, ◌+◌, ◌-◌, ◌<◌, ◌≤◌, false, true, List, length, get_or, take, drop, Option, sym, ap, ◌∙◌, subst, arith, length-drop, take_all, drop-drop, ◌∷◌}
use Rattle.format.proofs.Texts.{begins_front, text_longer, verdict_fault}
use Rattle.format.specs.Refusals.{refused, refusal, optional}
use Rattle.format.specs.Texts.{Text, none, bad_length, begins_form, start_length, text_verdict}
use Rattle.format.specs.WellFormed.{form_width}

-- the rest is what stands behind as many bytes as are gone, and those are text
pub record Judged (xs rest : List ℕ) : Type 0 where
  pub within : length rest ≤ length xs
  pub behind : rest ≡ drop (length xs - length rest) xs
  pub text : Text (take (length xs - length rest) xs)

module _ (xs rest : List ℕ) (j : Judged xs rest) where
  abbrev gone : ℕ
  gone = length xs - length rest

  -- no form follows: the verdict
  pub stops : 0 < length rest → begins_form rest ≡ false → (bad : Option ℕ) → bad ≡ bad_length (start_length rest) (length rest) → refused (refusal 6 (gone ∷ optional bad)) ≡ text_verdict xs
  stops h z bad b =
      ap (λ (o : Option ℕ). refused (refusal 6 (gone ∷ optional o))) (b ∙ ap (λ ys. bad_length (start_length ys) (length ys)) j.behind)
      ∙ sym (verdict_fault xs gone (omega (arith, j.within, h)) j.text (sym (ap begins_form j.behind) ∙ z))

  -- a form follows: it is text up to its end
  pub goes_on : (w : ℕ) → begins_form rest ≡ true → w ≡ form_width (get_or rest 0 0) → (w ≤ length rest) × Judged xs (drop w rest)
  goes_on w z e =
      let fits : w ≤ length rest = omega (arith, e, (begins_front rest z).within) in
      let left = length-drop w rest in
      let more : gone + w ≡ length xs - length (drop w rest) = omega (arith, left, fits, j.within) in
      let wide : gone + form_width (get_or (drop gone xs) 0 0) ≡ gone + w = ap (λ n. gone + n) (sym (e ∙ ap (λ ys. form_width (get_or ys 0 0)) j.behind)) in (
        fits,
        record {
          within = omega (arith, left, j.within);
          behind = ap (drop w) j.behind ∙ drop-drop w gone xs ∙ ap (λ n. drop n xs) more;
          text = subst (λ n. Text (take n xs)) (wide ∙ more) (text_longer xs gone j.text (sym (ap begins_form j.behind) ∙ z));
        },
      )

-- nothing is gone yet
pub none_gone : (xs : List ℕ) → Judged xs xs
none_gone xs = let z : 0 ≡ length xs - length xs = omega arith in
    record { within = omega arith; behind = ap (λ n. drop n xs) z; text = subst (λ n. Text (take n xs)) z none }

-- text up to the end of the bytes
pub text_whole : (xs rest : List ℕ) → Judged xs rest → length rest ≤ 0 → Text xs
text_whole xs rest j h = subst Text (take_all (length xs - length rest) xs (omega (arith, h))) j.text
