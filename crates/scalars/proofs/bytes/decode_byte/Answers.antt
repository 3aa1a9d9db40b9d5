use Rattle.std.proofs.Common.{get_or}
use Rattle.interfaces.proofs.Doing.{did_then}
use Rattle.readings.proofs.Charges.{taking_within, giving_within, claiming_within, then_within}
use Rattle.readings.specs.Readings.{giving, taking}
use Rattle.readings.specs.Scalars.{next_byte}
use Rattle.scalars.proofs.bytes.decode_byte.Goals as goal

-- the claim, and then the byte
pub returns : goal.returns
returns g c =
    did_then g.met.D.R.Reader.laws (λ _. next_byte) (claiming_within 1) (λ _. then_within (taking 1) (λ bs. giving (get_or bs 0 0)) (taking_within 1) (λ bs. giving_within (get_or bs 0 0)))
    c.in_ok-claim_bytes_read.ensures c.read_byte.ensures
