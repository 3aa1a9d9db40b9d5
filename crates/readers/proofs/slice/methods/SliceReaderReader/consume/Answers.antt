-- The place behind the bytes that went.
use Rattle.std.proofs.Common.{refl, arith, length-drop}
use Rattle.readers.proofs.slice.methods.SliceReaderReader.consume.Goals as goal
use Rattle.readers.specs.Equal.{same_slice}

pub returns : goal.returns
returns c = let r = c.args.self.now in same_slice _ _ refl (omega (arith, length-drop r.at r.slice.now))
