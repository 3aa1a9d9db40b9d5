use Rattle.interfaces.proofs.Doing.{did_then, did_stop}
use Rattle.readings.proofs.Strings.{string_lawful, judging_lawful}
use Rattle.readings.specs.Strings.{text_judging}
use Rattle.std.proofs.lemmas.Result.{err_from_is_err_and}
use Rattle.strings.proofs.Borrows.{text_borrowed, judged_did}
use Rattle.strings.proofs.text.borrow_decode.Goals as goal

-- the byte string was refused
pub returns-in_err-bytes-clause-borrowed : goal.returns-in_err-bytes-clause-borrowed
returns-in_err-bytes-clause-borrowed g c =
    let p = err_from_is_err_and c.from_residual.result c.from_residual.ensures.1 in
    rw (p.1, p.2) (text_borrowed g.met.D.R.Reader.laws g.D.C.Policy.meaning (did_stop text_judging c.in_err-bytes.ensures.borrowed.did))

-- the byte string was given, and then judged
pub returns-clause-borrowed : goal.returns-clause-borrowed
returns-clause-borrowed g c =
    text_borrowed g.met.D.R.Reader.laws g.D.C.Policy.meaning
    (did_then g.met.D.R.Reader.laws text_judging (string_lawful g.D.C.Policy.meaning.order g.D.C.Policy.meaning.encoding).within (λ bs. (judging_lawful bs).within) c.in_ok-bytes.ensures.borrowed.did
    (judged_did g.met.D.R.Reader.laws g.D.C.Policy.meaning c.in_ok-bytes.bytes.now c.check_text.result c.check_text.ensures.verdict))
