-- The laws that reading an element type owes, and what its calls answer and leave.
use Rattle.std.specs.Prelude.{◌≡◌, ℕ, ◌+◌, ◌*◌, ◌≤◌, true, cond, length, Some, Result}
use Rattle.elements.specs.Elements.{ElementMeaning}
use Rattle.format.specs.Pieces.{joined}
use Rattle.format.specs.declared.config.Endianness.{Endianness}
use Rattle.format.specs.declared.config.IntEncoding.{IntEncoding}
use Rattle.format.specs.declared.error.DecodeError.{DecodeError}
use Rattle.interfaces.specs.Decodes.{Did, Passes}
use Rattle.interfaces.specs.Policies.{PolicyMeaning}
use Rattle.interfaces.specs.Readers.{ReaderMeaning}
use Rattle.interfaces.specs.declared.config.Policy.{Ghosts as PolicyGhosts}
use Rattle.interfaces.specs.declared.de.decoder.Decoder.{Ghosts as DecoderGhosts}
use Rattle.interfaces.specs.declared.de.read.Reader.{Ghosts as ReaderGhosts}
use Rattle.readings.specs.Claims.{capped}
use Rattle.readings.specs.Laws.{Returns, Same, Alike, accepted}
use Rattle.readings.specs.Readings.{Source, Reading}

-- The laws of an element (e) and how its values are read (f), for every byte order, integer encoding, limit and count. (That `encode` offers the pieces of the writing is said by `Encoded`.)
pub record ElementLaws {A : Type 0} (e : ElementMeaning A) (f : Endianness → IntEncoding → Reading A) : Type 0 where
  -- **Return**: where a value's writing begins what waits and its claim is granted, it is given, just its writing is used, and just its claim is counted
  pub returns : (o : Endianness) (i : IntEncoding) (v : A) → e.valid v ≡ true → Returns (f o i) (joined (e.writing o i v)) (e.claim v) v
  -- **Same sight**: two sources that differ in the view alone give the same outcome, but for the two marks of an InvalidIntegerType
  pub same_sight : (o : Endianness) (i : IntEncoding) (s t : Source) → Same s t → Alike s t (f o i s) (f o i t)
  -- **Charge**: under a limit l, twice the bytes used is at most three times the rise in the smaller of count and limit, plus 2 where the reading refuses
  pub charge : (o : Endianness) (i : IntEncoding) (s : Source) (l : ℕ) → s.limit ≡ Some l → 3 * capped l s.count + 2 * (f o i s).used ≤ 3 * capped l (f o i s).counted + cond (accepted (f o i s).answer) 0 2
  -- and only bytes that wait are used
  pub within : (o : Endianness) (i : IntEncoding) (s : Source) → (f o i s).used ≤ length s.waiting

-- `decode` does what the reading of the type (f) says under the policy; and a value that was given is one of its type (e)
pub record Decoded {A R : Type 0} (e : ElementMeaning A) (f : Endianness → IntEncoding → Reading A) (p : PolicyMeaning) (m : ReaderMeaning R) (r : R) (n : ℕ) (res : Result A DecodeError) (r' : R) (n' : ℕ) : Type 0 where
  pub did : Did (f p.order p.encoding) p m r n res r' n'
  pub good : Passes e.valid res

-- the same of a decoder, said by the ghost members that a bound brings: its own, its policy's and its reader's
abbrev pub Decodes : {A D R C : Type 0} → DecoderGhosts D R C → PolicyGhosts C → ReaderGhosts R → ElementMeaning A → (Endianness → IntEncoding → Reading A) → D → Result A DecodeError → D → Type 0
Decodes decoder policy reader e f old res new = Decoded e f policy.meaning reader.meaning (decoder.reader old) (decoder.count old) res (decoder.reader new) (decoder.count new)
