use Rattle.format.specs.Numbers.{bytes}
use Rattle.interfaces.proofs.Offers.{offered_one, offered_then}
use Rattle.primitives.specs.Widths.{size}
use Rattle.primitives.proofs.varint.put_tagged.Goals as goal

-- the tag, and then the number
pub returns : goal.returns
returns g c =
    let laws = g.met.E.W.Writer.laws in
    offered_then laws (offered_one laws c.in_ok-write.ensures) (offered_one laws {bytes = bytes g.E.C.Policy.meaning.order (size c.args.width) c.args.n} c.put_number.ensures)
