use Rattle.std.proofs.Common.{◌≡◌, ℕ, [], ◌∷◌, ◌++◌, Ok, refl, ap, ◌∙◌}
use Rattle.cases.proofs.listing.fourteen_lines.Goals as goal
use Rattle.cases.specs.Carried.{f64_carried, lv_carried}
use Rattle.cases.specs.Lines.{laid, line_of}
use Rattle.cases.specs.declared.line.Line.{Line}
use Rattle.elements.specs.Elements.{within64}
use Rattle.elements.specs.Scalars.{unsigned}
use Rattle.format.specs.Durations.{duration_parts}
use Rattle.format.specs.Refusals.{given}
use Rattle.format.specs.Utf8.{utf8, width}
use Rattle.format.specs.Pieces.{joined}
use Rattle.interfaces.specs.Pieces.{leading}

-- the line of the character with this code, and that of a duration of these seconds and nanoseconds
char_line : ℕ → Line
char_line n = laid (joined (leading 16 (utf8 n ∷ []))) (within64 (width n))

duration_line : ℕ → ℕ → Line
duration_line s n = laid (joined (leading 16 ((unsigned 8).writing lv_carried.order lv_carried.encoding s ++ (unsigned 4).writing lv_carried.order lv_carried.encoding n))) (within64 12)

given_is : {A : Type 0} (x y : A) → given x ≡ given y → x ≡ y
given_is x y e = cc

pub returns : goal.returns
unfolding char_line duration_line
returns c =
    let euro = given_is c.in_ok-euro.euro.code 8364 c.in_ok-euro.ensures in
    let parts = given_is (duration_parts c.in_ok-duration.duration) (1, 5) c.in_ok-duration.ensures in
    let ten = c.encode_line-10.ensures ∙ ap char_line euro in
    let thirteen = c.encode_line-13.ensures ∙ ap (λ (d : ℕ × ℕ). duration_line d.0 d.1) parts in
    let fourteen = c.encode_line-14.ensures ∙ ap (line_of f64_carried lv_carried) c.from_bits.ensures in
    record {
      definitions = refl;
      lines = λ i. Ok (c.encode_line.ensures i ∷ c.encode_line-2.ensures i ∷ c.encode_line-3.ensures i ∷ c.encode_line-4.ensures i ∷ c.encode_line-5.ensures i ∷ c.encode_line-6.ensures i ∷ c.encode_line-7.ensures i ∷ c.encode_line-8.ensures i ∷ c.encode_line-9.ensures i ∷ ten i ∷ c.encode_line-11.ensures i ∷ c.encode_line-12.ensures i ∷ thirteen i ∷ fourteen i ∷ []);
    }
