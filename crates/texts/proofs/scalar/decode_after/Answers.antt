use Rattle.std.proofs.Common.{◌≡◌, ℕ, ◌-◌, ◌≤◌, [], ◌∷◌, length, take, Err, ap, ◌∙◌, arith}
use Rattle.format.proofs.WellFormed.{form_width_most}
use Rattle.readings.specs.Chars.{judged_char}
use Rattle.std.proofs.lemmas.Result.{err_from_is_err_and}
use Rattle.texts.proofs.Steps.{first_and, zeros, did_after_first, did_judged, did_unread}
use Rattle.texts.proofs.scalar.decode_after.Goals as goal

-- too few other bytes wait
pub returns-in_err-read : goal.returns-in_err-read
returns-in_err-read g c =
    let a = c.args.first in
    let w = c.in-Some.width in
    let wide = c.in-Some.ensures in
    let most : w ≤ 4 = omega (arith, form_width_most a) in
    let q = err_from_is_err_and c.from_residual-in_err-read.result c.from_residual-in_err-read.ensures.1 in
    did_after_first g.met.D.R.Reader.laws a w wide.0 wide.1 c.in_ok-claim_bytes_read.ensures
    (did_unread g.met.D.R.Reader.laws a w wide.0 wide.1 (length {A = ℕ} (take (w - 1) (0 ∷ 0 ∷ 0 ∷ []))) (zeros w most)
    (q.1 ∙ ap Err q.2)
    c.in_err-read.ensures.did)

-- the claim, the other bytes, and what they are judged
pub returns : goal.returns
returns g c =
    let a = c.args.first in
    let w = c.in-Some.width in
    let wide = c.in-Some.ensures in
    let most : w ≤ 4 = omega (arith, form_width_most a) in
    let read : length c.read.new.bytes ≡ w - 1 = omega (arith, zeros w most, c.read.auto.bytes) in
    did_after_first g.met.D.R.Reader.laws a w wide.0 wide.1 c.in_ok-claim_bytes_read.ensures
    (did_judged g.met.D.R.Reader.laws a w wide.0 wide.1 (length {A = ℕ} (take (w - 1) (0 ∷ 0 ∷ 0 ∷ []))) (zeros w most)
    c.in_ok-read.ensures.did
    (c.judge.ensures ∙ ap judged_char (first_and w a c.read.new.bytes _ wide.0 read)))
