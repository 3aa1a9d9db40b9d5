use Rattle.std.proofs.Common.{sym, ap, ◌∙◌, arith}
use Rattle.interfaces.proofs.Doing.{did_then, did_is}
use Rattle.parsers.proofs.Ranges.{range_wider}
use Rattle.parsers.proofs.varint.decode_integer.Goals as goal
use Rattle.primitives.specs.Widths.{size}
use Rattle.readings.proofs.Charges.{claiming_within}
use Rattle.readings.proofs.Integers.{number_within, variable_within}
use Rattle.readings.specs.Integers.{type_width, number_reading, variable_reading, integer_reading}
use Rattle.readings.specs.Readings.{claiming}

-- the claim, and then one read of the full width
pub returns-in-Fixed : goal.returns-in-Fixed
returns-in-Fixed g c =
    let t = c.args.asked in
    let o = g.D.C.Policy.meaning.order in
    record {
      did =
          did_is (ap (integer_reading t o) (sym c.in-Fixed.is ∙ c.integer_encoding.ensures))
          (did_then g.met.D.R.Reader.laws (λ _. number_reading o (type_width t)) (claiming_within (type_width t)) (λ _. number_within o (type_width t))
          (did_is (ap claiming c.type_width.ensures) c.in_ok-claim_bytes_read.ensures)
          (did_is (ap (number_reading o) c.width_of.ensures) c.read_number.ensures.did));
      range = range_wider (size c.width_of.result) (type_width t) (omega (arith, c.width_of.ensures)) _ c.read_number.ensures.range;
    }

-- the claim, and then the variable form
pub returns-in-Variable : goal.returns-in-Variable
returns-in-Variable g c =
    let t = c.args.asked in
    let o = g.D.C.Policy.meaning.order in
    record {
      did =
          did_is (ap (integer_reading t o) (sym c.in-Variable.is ∙ c.integer_encoding.ensures))
          (did_then g.met.D.R.Reader.laws (λ _. variable_reading t o) (claiming_within (type_width t)) (λ _. variable_within t o)
          (did_is (ap claiming c.type_width.ensures) c.in_ok-claim_bytes_read.ensures)
          c.read_variable.ensures.did);
      range = c.read_variable.ensures.range;
    }
