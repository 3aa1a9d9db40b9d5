-- `write` of a slice writer: the buffer and the place that it leaves are those that the meaning speaks of.
use Rattle.std.proofs.Common.{ap, arith}
use denote.Ref.{at_last}
use lib.Seq.{length-sets}
use Rattle.writers.proofs.Accepted.{accepted}
use Rattle.writers.proofs.slice.methods.SliceWriterWriter.write.Goals as goal
use Rattle.writers.specs.Equal.{same_slice}
use Rattle.writers.specs.Slices.{slice_meaning}

pub returns : goal.returns
returns c =
    let w = c.args.self.now in
    accepted slice_meaning _ _ _ (omega arith)
    (same_slice _ _ (ap (at_last w.slice) c.store.ensures) (omega (arith, w.within, length-sets w.slice.now w.at c.args.bytes.now)))
