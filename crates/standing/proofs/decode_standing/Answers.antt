use Rattle.interfaces.proofs.Standing.{did_stood, did_found}
use Rattle.standing.proofs.decode_standing.Goals as goal

-- what the decode did, and what its type's relation has to do with it
pub returns : goal.returns
returns g c =
    let o = g.D.C.Policy.meaning.order in
    let i = g.D.C.Policy.meaning.encoding in
    let e = g.T.Element.meaning in
    let f = g.T.Decode.reading o i in
    let within = g.met.T.Decode.laws.within o i in
    let S = g.T.Standing.stands o i in
    let d = c.decode.ensures.decoded.did in
    record {
      decoded = c.decode.ensures.decoded;
      charged = c.decode.ensures.charged;
      stood = did_stood g.met.D.R.Reader.laws g.D.C.Policy.meaning f within S (g.met.T.Standing.law.accepts o i) c.decode.result d;
      found = did_found g.met.D.R.Reader.laws g.D.C.Policy.meaning f within S e.claim (g.met.T.Standing.law.returns o i) d;
      written = g.met.T.Standing.law.writes;
    }
