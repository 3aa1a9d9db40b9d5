-- A run of stores from the place.
use Rattle.std.proofs.Common.{rules}
use lib.Seq.{sets-eq}
use Rattle.std.proofs.lemmas.Slice.{overwrites}
use Rattle.writers.proofs.store.store.Goals as goal

pub returns : goal.returns
returns c = let parts = sets-eq c.args.bytes.now c.args.to.now c.args.at c.requires in search (rules, overwrites)
