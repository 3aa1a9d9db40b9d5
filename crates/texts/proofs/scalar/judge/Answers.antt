use Rattle.std.proofs.Common.{◌≡◌, ℕ, true, Ok, Err, Result, refl, sym, ap, ◌∙◌}
use Rattle.std.proofs.lemmas.Bool.{cond-true}
use Rattle.std.specs.Prelude.{IsOk}
use Rattle.format.proofs.WellFormed.{stands, test_from}
use Rattle.format.specs.Refusals.{answer, given, value_refusal}
use Rattle.format.specs.Scalars.{scalar, made_char}
use Rattle.format.specs.WellFormed.{well_formed, code_of}
use Rattle.format.specs.declared.error.ValueError.{ValueError}
use Rattle.format.specs.declared.scalar.Char.{Char}
use Rattle.readings.proofs.Chars.{judged_well, same_char}
use Rattle.readings.specs.Chars.{char_of}
use Rattle.texts.proofs.scalar.judge.Goals as goal
use Rattle.texts.proofs.scalar.judge.Goals.{After-new}

-- what a form stands for is a scalar value, so the character with this number was made
well : (c : After-new) → well_formed c.args.form.now ≡ true
well c = sym c.is_form.ensures ∙ c.if-is_form.true

made : (c : After-new) → answer value_refusal (λ c. c.code) c.new.result ≡ given (code_of c.args.form.now)
made c = let xs = c.args.form.now in c.new.ensures ∙ ap made_char c.code_of.ensures ∙ cond-true (scalar (code_of xs)) _ _ (stands xs (well c)).scalar_value

made_ok : (r : Result Char ValueError) (n : ℕ) → answer value_refusal (λ c. c.code) r ≡ given n → IsOk r
made_ok (Ok c) n e = refl
made_ok (Err x) n e = cc

pub unwrap-requires : goal.unwrap-requires
unwrap-requires c = made_ok c.new.result (code_of c.args.form.now) (made (goal.at.unwrap-requires c).After-new)

pub returns-then-is_form : goal.returns-then-is_form
returns-then-is_form c =
    let xs = c.args.form.now in
    let b = (goal.at.returns-then-is_form c).After-new in
    let h = test_from (well_formed xs) (well b) in
    let told = sym (ap (answer value_refusal (λ c. c.code)) c.unwrap.ensures) ∙ made b in
    let same : c.unwrap.result.code ≡ code_of xs = cc in
    ap given (same_char c.unwrap.result (char_of xs h) same) ∙ sym (judged_well xs h)
