use Rattle.std.proofs.Common.{rules}
use Rattle.encoding.proofs.encode_into_slice.Goals as goal
use Rattle.writers.proofs.Fronts.{front_offered}

-- the writer began at the buffer's front, with all of it free
pub returns : goal.returns
returns g c =
    let f = front_offered c.new-writer.ensures c.encode_into_writer-answer.ensures.offers in
    let h = f.holds in
    let s = f.same in
    search rules
