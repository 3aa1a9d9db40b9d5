use Rattle.interfaces.proofs.Doing.{did_then}
use Rattle.readings.proofs.Charges.{giving_within, claiming_within, then_within}
use Rattle.readings.proofs.Integers.{number_within}
use Rattle.readings.specs.Integers.{number_reading}
use Rattle.readings.specs.Readings.{giving}
use Rattle.readings.specs.Scalars.{with_bits, next_double}
use Rattle.scalars.proofs.floats.decode_double.Goals as goal

-- the claim, and then the bits
pub returns : goal.returns
returns g c =
    let o = g.D.C.Policy.meaning.order in
    record {
      did =
          did_then g.met.D.R.Reader.laws (λ _. next_double o) (claiming_within 8) (λ _. then_within (number_reading o 8) (λ n. giving (with_bits n)) (number_within o 8) (λ n. giving_within (with_bits n)))
          c.in_ok-claim_bytes_read.ensures c.read_double.ensures.did;
      range = c.read_double.ensures.range;
    }
