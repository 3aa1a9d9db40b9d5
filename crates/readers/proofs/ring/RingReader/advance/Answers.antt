-- The start and the count of the ring that is left.
use Rattle.std.proofs.Common.{◌+◌, length, refl, ap, ◌∙◌, arith}
use Rattle.readers.proofs.ring.RingReader.advance.Goals as goal
use Rattle.readers.specs.Equal.{same_ring}
use Rattle.readers.specs.Wraps.{wrapped}

pub returns : goal.returns
returns c =
    let r = c.args.self.now in
    same_ring _ _ refl
    (c.index_after.ensures ∙ ap (λ n. wrapped (length r.buffer.now) (r.start + n)) (omega arith))
    refl
