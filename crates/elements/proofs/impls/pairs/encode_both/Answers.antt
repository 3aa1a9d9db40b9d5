use Rattle.elements.proofs.Encodes.{both_encoded, first_refused}
use Rattle.elements.proofs.impls.pairs.encode_both.Goals as goal
use Rattle.std.proofs.lemmas.Result.{err_from_is_err_and}

-- the first was refused
pub returns-in_err-encode : goal.returns-in_err-encode
returns-in_err-encode g c =
    let p = err_from_is_err_and c.from_residual.result c.from_residual.ensures.1 in
    rw (p.1, p.2) (first_refused g.met.E.W.Writer.laws g.T.Element.meaning g.U.Element.meaning g.E.C.Policy.meaning c.args.second.now c.in_err-encode.ensures)

-- the first was accepted, and then the second was offered
pub returns : goal.returns
returns g c = both_encoded g.met.E.W.Writer.laws g.T.Element.meaning g.U.Element.meaning g.E.C.Policy.meaning c.in_ok-encode.ensures c.encode-2.ensures
