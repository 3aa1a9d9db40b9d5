use Rattle.format.specs.declared.error.IntegerType.TheVariants.{U32}
use Rattle.interfaces.proofs.Doing.{did_then, did_is, did_giving}
use Rattle.readings.proofs.Integers.{integer_lawful}
use Rattle.readings.specs.Scalars.{duration_of}
use Rattle.scalars.proofs.Durations.{made_judged, made_range, judged_within}
use Rattle.scalars.proofs.time.decode_after.Goals as goal

-- the nanoseconds, and then the duration of both
pub returns-in-Ok : goal.returns-in-Ok
returns-in-Ok g c =
    let secs = c.args.secs in
    let nanos = c.in_ok-nanos.field-0 in
    let d = c.in-Ok.duration in
    record {
      did =
          did_then g.met.D.R.Reader.laws (duration_of secs) (integer_lawful U32 g.D.C.Policy.meaning.order g.D.C.Policy.meaning.encoding).within (judged_within secs)
          c.in_ok-nanos.ensures.did (did_is (made_judged secs nanos d c.in-Ok.ensures) (did_giving g.met.D.R.Reader.laws d));
      range = made_range secs nanos d c.in-Ok.ensures;
    }
