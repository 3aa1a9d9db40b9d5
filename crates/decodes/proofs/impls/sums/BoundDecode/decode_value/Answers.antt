use Rattle.decodes.proofs.impls.sums.BoundDecode.decode_value.Goals as goal
use Rattle.meanings.proofs.Parts.{handed_on, included_decoded, excluded_decoded}
use Rattle.std.proofs.Common.{Ok, Err}

-- Included: its value was refused, and it was given
pub returns-in_err-decode-in-1 : goal.returns-in_err-decode-in-1
returns-in_err-decode-in-1 g c =
    handed_on c.from_residual-in_err-decode-in-1.result c.from_residual-in_err-decode-in-1.ensures.1 (included_decoded g.met.D.R.Reader.laws g.D.C.Policy.meaning g.T.Element.meaning g.T.Decode.reading g.met.T.Decode.laws c.in_ok-found.ensures.decoded c.in-1.is (Err c.in_err-decode-in-1.field-0.0) c.in_err-decode-in-1.ensures.decoded)

pub returns-in_ok-decode-in-1 : goal.returns-in_ok-decode-in-1
returns-in_ok-decode-in-1 g c = included_decoded g.met.D.R.Reader.laws g.D.C.Policy.meaning g.T.Element.meaning g.T.Decode.reading g.met.T.Decode.laws c.in_ok-found.ensures.decoded c.in-1.is (Ok c.in_ok-decode-in-1.field-0) c.in_ok-decode-in-1.ensures.decoded

-- Excluded: its value was refused, and it was given
pub returns-in_err-decode-in-2 : goal.returns-in_err-decode-in-2
returns-in_err-decode-in-2 g c =
    handed_on c.from_residual-in_err-decode-in-2.result c.from_residual-in_err-decode-in-2.ensures.1 (excluded_decoded g.met.D.R.Reader.laws g.D.C.Policy.meaning g.T.Element.meaning g.T.Decode.reading g.met.T.Decode.laws c.in_ok-found.ensures.decoded c.in-2.is (Err c.in_err-decode-in-2.field-0.0) c.in_err-decode-in-2.ensures.decoded)

pub returns-in_ok-decode-in-2 : goal.returns-in_ok-decode-in-2
returns-in_ok-decode-in-2 g c = excluded_decoded g.met.D.R.Reader.laws g.D.C.Policy.meaning g.T.Element.meaning g.T.Decode.reading g.met.T.Decode.laws c.in_ok-found.ensures.decoded c.in-2.is (Ok c.in_ok-decode-in-2.field-0) c.in_ok-decode-in-2.ensures.decoded
