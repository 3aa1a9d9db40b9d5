use Rattle.std.proofs.Common.{refl}
use Rattle.writers.proofs.slice.SliceWriter.new.Goals as goal
use Rattle.writers.specs.Equal.{same_slice}

pub returns : goal.returns
returns c = same_slice _ _ refl refl
