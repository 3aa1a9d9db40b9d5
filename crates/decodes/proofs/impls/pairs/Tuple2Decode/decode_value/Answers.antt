use Rattle.decodes.proofs.impls.pairs.Tuple2Decode.decode_value.Goals as goal
use Rattle.meanings.proofs.Parts.{handed_on, pair_decoded}
use Rattle.std.proofs.Common.{Ok, Err}

-- the second was refused
pub returns-in_err-second : goal.returns-in_err-second
returns-in_err-second g c =
    handed_on c.from_residual-in_err-second.result c.from_residual-in_err-second.ensures.1 (pair_decoded g.met.D.R.Reader.laws g.D.C.Policy.meaning g.T.Element.meaning g.U.Element.meaning g.T.Decode.reading g.U.Decode.reading g.met.T.Decode.laws g.met.U.Decode.laws c.in_ok-first.ensures.decoded (Err c.in_err-second.field-0.0) c.in_err-second.ensures.decoded)

-- both were given
pub returns : goal.returns
returns g c = pair_decoded g.met.D.R.Reader.laws g.D.C.Policy.meaning g.T.Element.meaning g.U.Element.meaning g.T.Decode.reading g.U.Decode.reading g.met.T.Decode.laws g.met.U.Decode.laws c.in_ok-first.ensures.decoded (Ok c.in_ok-second.second) c.in_ok-second.ensures.decoded
