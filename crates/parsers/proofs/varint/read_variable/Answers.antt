use Rattle.std.proofs.Common.{ap}
use Rattle.format.specs.declared.error.DecodeError.TheVariants.{InvalidIntegerType}
use Rattle.format.specs.declared.error.IntegerType.{IntegerType}
use Rattle.parsers.proofs.Peeks.{unseen_did, value_did, wide_did}
use Rattle.parsers.proofs.varint.read_variable.Goals as goal
use Rattle.readings.specs.Laws.{too_wide}

-- the bytes are not in view
pub returns-in-None : goal.returns-in-None
returns-in-None g c =
    record {
      did = unseen_did g.met.D.R.Reader.laws g.D.C.Policy.meaning c.args.asked g.D.C.Policy.meaning.order (g.D.Decoder.reader c.args.decoder.now) (g.D.Decoder.count c.args.decoder.now) c.type_width.result c.type_width.ensures
          c.in-None.ensures c.read_tagged.ensures.did;
      range = c.read_tagged.ensures.range;
    }

-- they are, and hold a number
pub returns-in-Ok : goal.returns-in-Ok
returns-in-Ok g c =
    record {
      did = value_did g.met.D.R.Reader.laws g.D.C.Policy.meaning c.args.asked g.D.C.Policy.meaning.order (g.D.Decoder.reader c.args.decoder.now) (g.D.Decoder.count c.args.decoder.now) c.type_width.result c.type_width.ensures
          c.endianness.result c.in-Some.bytes.now c.in-Ok.value c.in-Ok.used c.endianness.ensures c.in-Some.ensures c.in-Ok.ensures.value c.consume.ensures.holds c.consume.ensures.count;
      range = c.in-Ok.ensures.range;
    }

-- they are, and their tag is too wide
pub returns-in-Err : goal.returns-in-Err
returns-in-Err g c =
    record {
      did = wide_did g.met.D.R.Reader.laws g.D.C.Policy.meaning c.args.asked g.D.C.Policy.meaning.order (g.D.Decoder.reader c.args.decoder.now) (g.D.Decoder.count c.args.decoder.now) c.type_width.result c.type_width.ensures
          c.endianness.result c.in-Some.bytes.now c.in-Err.found (InvalidIntegerType c.peek_name.result c.in-Err.found) c.endianness.ensures c.in-Some.ensures c.in-Err.ensures.value
          (ap (λ (x : IntegerType). too_wide x c.in-Err.found) c.peek_name.ensures);
      range = tt;
    }
