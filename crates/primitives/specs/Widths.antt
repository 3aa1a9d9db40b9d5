-- How many bytes a width is.
use Rattle.std.specs.Prelude.{ℕ}
use Rattle.primitives.specs.declared.varint.Width.{Width}
use Rattle.primitives.specs.declared.varint.Width.TheVariants.{Two, Four, Eight}

abbrev pub size : Width → ℕ
size Two = 2
size Four = 4
size Eight = 8
