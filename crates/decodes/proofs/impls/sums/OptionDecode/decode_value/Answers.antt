use Rattle.decodes.proofs.impls.sums.OptionDecode.decode_value.Goals as goal
use Rattle.meanings.proofs.Parts.{handed_on, some_decoded}
use Rattle.std.proofs.Common.{Ok, Err}

-- Some: its value was refused, and it was given
pub returns-in_err-decode-in-1 : goal.returns-in_err-decode-in-1
returns-in_err-decode-in-1 g c =
    handed_on c.from_residual-in_err-decode-in-1.result c.from_residual-in_err-decode-in-1.ensures.1 (some_decoded g.met.D.R.Reader.laws g.D.C.Policy.meaning g.T.Element.meaning g.T.Decode.reading g.met.T.Decode.laws c.in_ok-found.ensures.decoded c.in-1.is (Err c.in_err-decode-in-1.field-0.0) c.in_err-decode-in-1.ensures.decoded)

pub returns-in_ok-decode-in-1 : goal.returns-in_ok-decode-in-1
returns-in_ok-decode-in-1 g c = some_decoded g.met.D.R.Reader.laws g.D.C.Policy.meaning g.T.Element.meaning g.T.Decode.reading g.met.T.Decode.laws c.in_ok-found.ensures.decoded c.in-1.is (Ok c.in_ok-decode-in-1.field-0) c.in_ok-decode-in-1.ensures.decoded
