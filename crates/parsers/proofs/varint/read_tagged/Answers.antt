use Rattle.std.proofs.Common.{get_or}
use Rattle.interfaces.proofs.Doing.{did_then}
use Rattle.parsers.proofs.varint.read_tagged.Goals as goal
use Rattle.readings.proofs.Charges.{taking_within}
use Rattle.readings.proofs.Integers.{after_within}
use Rattle.readings.specs.Integers.{after_tag}

-- the tag, and then what it says
pub returns : goal.returns
returns g c =
    let t = c.args.asked in
    let o = g.D.C.Policy.meaning.order in
    record {
      did = did_then g.met.D.R.Reader.laws (λ bs. after_tag t o (get_or bs 0 0)) (taking_within 1) (λ bs. after_within t o (get_or bs 0 0)) c.in_ok-read.ensures.did c.read_after_tag.ensures.did;
      range = c.read_after_tag.ensures.range;
    }
