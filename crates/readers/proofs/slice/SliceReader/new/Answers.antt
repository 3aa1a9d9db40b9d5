use Rattle.std.proofs.Common.{refl}
use Rattle.readers.proofs.slice.SliceReader.new.Goals as goal
use Rattle.readers.specs.Equal.{same_slice}

pub returns : goal.returns
returns c = same_slice _ _ refl refl
