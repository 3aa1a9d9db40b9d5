use Rattle.format.specs.declared.error.IntegerType.TheVariants.{U64}
use Rattle.interfaces.proofs.Doing.{did_then}
use Rattle.readings.proofs.Integers.{integer_lawful}
use Rattle.readings.specs.Scalars.{duration_after}
use Rattle.scalars.proofs.Durations.{after_within}
use Rattle.scalars.proofs.time.decode_duration.Goals as goal

-- the seconds, and then the rest
pub returns : goal.returns
returns g c =
    let o = g.D.C.Policy.meaning.order in
    let i = g.D.C.Policy.meaning.encoding in
    record {
      did = did_then g.met.D.R.Reader.laws (duration_after o i) (integer_lawful U64 o i).within (after_within o i) c.in_ok-secs.ensures.did c.decode_after.ensures.did;
      range = c.decode_after.ensures.range;
    }
