-- How byte strings and text are written, and what they claim.
use Rattle.std.specs.Prelude.{ℕ, ◌+◌, ◌^◌, ◌<◌, List, [], ◌∷◌, ◌++◌, length, is_ok, Result}
use Rattle.format.specs.Integers.{unsigned_writing}
use Rattle.format.specs.Pieces.{joined}
use Rattle.format.specs.Texts.{Text}
use Rattle.format.specs.declared.config.Endianness.{Endianness}
use Rattle.format.specs.declared.config.IntEncoding.{IntEncoding}
use Rattle.format.specs.declared.error.DecodeError.{DecodeError}
use Rattle.interfaces.specs.Decodes.{Did}
use Rattle.interfaces.specs.Policies.{PolicyMeaning}
use Rattle.interfaces.specs.Readers.{ReaderMeaning}
use Rattle.interfaces.specs.Standing.{Stood, Found}
use Rattle.interfaces.specs.declared.config.Policy.{Ghosts as PolicyGhosts}
use Rattle.interfaces.specs.declared.de.decoder.Decoder.{Ghosts as DecoderGhosts}
use Rattle.interfaces.specs.declared.de.read.Reader.{Ghosts as ReaderGhosts}
use Rattle.readings.specs.Laws.{Charged}
use Rattle.readings.specs.Readings.{Reading}

-- the length as an integer of 8 bytes, and then the bytes as one piece
abbrev pub string_writing : Endianness → IntEncoding → List ℕ → List (List ℕ)
string_writing o i bytes = unsigned_writing 8 o i (length bytes) ++ (bytes ∷ [])

-- 8 for the length, and then one for each byte
abbrev pub string_claim : List ℕ → ℕ
string_claim bytes = 8 + length bytes

-- the writing of a byte string whose length is a number of 64 bits stands for it, and that of a text too
abbrev pub WrittenString : (Endianness → IntEncoding → List ℕ → List ℕ → Type 0) → Type 0
WrittenString S = (o : Endianness) (i : IntEncoding) (v : List ℕ) → length v < 2 ^ 64 → S o i (joined (string_writing o i v)) v

abbrev pub WrittenText : (Endianness → IntEncoding → List ℕ → List ℕ → Type 0) → Type 0
WrittenText S = (o : Endianness) (i : IntEncoding) (v : List ℕ) → length v < 2 ^ 64 → Text v → S o i (joined (string_writing o i v)) v

-- What a call that hands out a byte string or a text did, by how that is read (f) and by which bytes stand for it (S): it answered and left what the reading
-- says, and is charged for it; what it consumed stands for what it gave; and where a beginning of the waiting bytes stands for a string and its claims are
-- granted, that string is given and just that beginning is consumed.
pub record Borrowed {R : Type 0} (f : Endianness → IntEncoding → Reading (List ℕ)) (S : Endianness → IntEncoding → List ℕ → List ℕ → Type 0) (p : PolicyMeaning) (m : ReaderMeaning R) (r : R) (n : ℕ) (res : Result (List ℕ) DecodeError) (r' : R) (n' : ℕ) : Type 0 where
  pub did : Did (f p.order p.encoding) p m r n res r' n'
  pub charged : Charged p.limit (m.waiting r) n (is_ok res) (m.waiting r') n'
  pub stood : Stood (S p.order p.encoding) (m.waiting r) res (m.waiting r')
  pub found : Found (S p.order p.encoding) string_claim p.limit n (m.waiting r) res (m.waiting r')

-- the same of a decoder, said by the ghost members that a bound brings: its own, its policy's and its reader's
abbrev pub Borrows : {D R C : Type 0} → DecoderGhosts D R C → PolicyGhosts C → ReaderGhosts R → (Endianness → IntEncoding → Reading (List ℕ)) → (Endianness → IntEncoding → List ℕ → List ℕ → Type 0) → D → Result (List ℕ) DecodeError → D → Type 0
Borrows decoder policy reader f S old res new = Borrowed f S policy.meaning reader.meaning (decoder.reader old) (decoder.count old) res (decoder.reader new) (decoder.count new)
