-- What a policy means, and how large a limit is.
use Rattle.std.specs.Prelude.{ℕ, ◌^◌, ◌<◌, Some, None, Option}
use Rattle.format.specs.declared.config.Endianness.{Endianness}
use Rattle.format.specs.declared.config.IntEncoding.{IntEncoding}

-- its three constants
pub record PolicyMeaning : Type 0 where
  pub order : Endianness
  pub encoding : IntEncoding
  pub limit : Option ℕ

-- a limit is a number of 64 bits
abbrev pub Below64 : Option ℕ → Type 0
Below64 None = Unit {0}
Below64 (Some l) = l < 2 ^ 64
