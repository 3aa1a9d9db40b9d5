use Rattle.format.specs.declared.error.IntegerType.TheVariants.{U64}
use Rattle.interfaces.proofs.Doing.{did_then, did_stop}
use Rattle.readings.proofs.Integers.{integer_lawful}
use Rattle.readings.proofs.Strings.{bytes_lawful, string_writes}
use Rattle.readings.specs.Strings.{bytes_reading}
use Rattle.std.proofs.lemmas.Result.{err_from_is_err_and}
use Rattle.strings.proofs.Borrows.{string_borrowed}
use Rattle.strings.proofs.bytes.borrow_decode.Goals as goal

-- the length was refused
pub returns-in_err-length : goal.returns-in_err-length
returns-in_err-length g c =
    let p = err_from_is_err_and c.from_residual.result c.from_residual.ensures.1 in
    record { borrowed = rw (p.1, p.2) (string_borrowed g.met.D.R.Reader.laws g.D.C.Policy.meaning (did_stop bytes_reading c.in_err-length.ensures.did)); written = string_writes }

-- the length was given, and then the bytes were taken
pub returns : goal.returns
returns g c = record {
  borrowed =
      string_borrowed g.met.D.R.Reader.laws g.D.C.Policy.meaning
      (did_then g.met.D.R.Reader.laws bytes_reading (integer_lawful U64 g.D.C.Policy.meaning.order g.D.C.Policy.meaning.encoding).within (λ n. (bytes_lawful n).within) c.in_ok-length.ensures.did c.take_claimed.ensures);
  written = string_writes;
}
