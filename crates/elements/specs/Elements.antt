-- What an element type means, and what its calls answer and leave.
use Rattle.std.specs.Prelude.{◌≡◌, ℕ, ◌^◌, Bool, true, cond, List, is_ok, Some, None, Option, Result, nat_lt}
use Rattle.format.specs.declared.config.Endianness.{Endianness}
use Rattle.format.specs.declared.config.IntEncoding.{IntEncoding}
use Rattle.format.specs.declared.error.EncodeError.{EncodeError}
use Rattle.interfaces.specs.Pieces.{Offered}
use Rattle.interfaces.specs.Policies.{PolicyMeaning}
use Rattle.interfaces.specs.Writers.{WriterMeaning}
use Rattle.interfaces.specs.declared.config.Policy.{Ghosts as PolicyGhosts}
use Rattle.interfaces.specs.declared.enc.encoder.Encoder.{Ghosts as EncoderGhosts}
use Rattle.interfaces.specs.declared.enc.write.Writer.{Ghosts as WriterGhosts}

-- Which terms are values of the type (a `u16` is any number to the logic, also one that does not fit); the writing of a value, a list of pieces that
-- depends on the value, the byte order and the integer encoding alone; and its claim, a number that depends on the value alone and is never cut.
pub record ElementMeaning (A : Type 0) : Type 0 where
  pub valid : A → Bool
  pub writing : Endianness → IntEncoding → A → List (List ℕ)
  pub claim : A → ℕ

-- `encode` offers the writing of the value under the policy; and a value that was accepted is one of its type
pub record Encoded {A W : Type 0} (e : ElementMeaning A) (p : PolicyMeaning) (m : WriterMeaning W) (w : W) (v : A) (r : Result Unit EncodeError) (w' : W) : Type 0 where
  pub offers : Offered m w (e.writing p.order p.encoding v) r w'
  pub good : is_ok r ≡ true → e.valid v ≡ true

-- the same of an encoder, said by the ghost members that a bound brings: its own, its policy's and its writer's
abbrev pub Encodes : {A E W C : Type 0} → EncoderGhosts E W C → PolicyGhosts C → WriterGhosts W → ElementMeaning A → A → E → Result Unit EncodeError → E → Type 0
Encodes encoder policy writer e v old res new = Encoded e policy.meaning writer.meaning (encoder.writer old) v res (encoder.writer new)

-- a number, or none where it passes 2^64 - 1
abbrev pub within64 : ℕ → Option ℕ
within64 n = cond (nat_lt n (2 ^ 64)) (Some n) None
