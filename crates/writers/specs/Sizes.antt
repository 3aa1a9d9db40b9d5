-- What a size writer means.
use Rattle.std.proofs.Common.{ap, arith, length-append}
use Rattle.std.specs.Prelude.{ℕ, ◌+◌, ◌-◌, ◌^◌, length}
use Rattle.interfaces.specs.Writers.{WriterMeaning, WriterLaws}
use Rattle.writers.specs.declared.size.SizeWriter.{SizeWriter}

-- the writer that has counted n bytes
abbrev pub counted : ℕ → SizeWriter
counted n = record { bytes_written = n }

-- free is what the count lacks of 2^64 - 1, and taking bytes adds their number to the count
abbrev pub size_meaning : WriterMeaning SizeWriter
size_meaning = record {
  free = λ w. 2 ^ 64 - 1 - w.bytes_written;
  takes = λ a w. counted (w.bytes_written + length a);
}

-- nothing, two in a row, and the free count: all are sums of lengths
pub size_laws : WriterLaws size_meaning
size_laws = record {
  nothing = λ w. ap counted (omega arith);
  joins = λ a b w h. ap counted (omega (arith, length-append a b));
  falls = λ a w h. omega arith;
}
