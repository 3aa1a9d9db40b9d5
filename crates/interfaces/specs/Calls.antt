-- What a call did to an encoder or a decoder, said by the ghost members that a bound brings: an encoder's or a decoder's own, and its policy's, writer's or reader's.
use Rattle.std.specs.Prelude.{ℕ, List, is_ok, Result}
use Rattle.format.specs.declared.config.Endianness.{Endianness}
use Rattle.format.specs.declared.config.IntEncoding.{IntEncoding}
use Rattle.format.specs.declared.error.DecodeError.{DecodeError}
use Rattle.format.specs.declared.error.EncodeError.{EncodeError}
use Rattle.interfaces.specs.Decodes.{Did}
use Rattle.interfaces.specs.Pieces.{Offered}
use Rattle.interfaces.specs.Standing.{Stood, Found}
use Rattle.interfaces.specs.Writers.{Written}
use Rattle.interfaces.specs.declared.config.Policy.{Ghosts as PolicyGhosts}
use Rattle.interfaces.specs.declared.de.decoder.Decoder.{Ghosts as DecoderGhosts}
use Rattle.interfaces.specs.declared.de.read.Reader.{Ghosts as ReaderGhosts}
use Rattle.interfaces.specs.declared.enc.encoder.Encoder.{Ghosts as EncoderGhosts}
use Rattle.interfaces.specs.declared.enc.write.Writer.{Ghosts as WriterGhosts}
use Rattle.readings.specs.Laws.{Charged}
use Rattle.readings.specs.Readings.{Reading}

module _ {E W C : Type 0} (encoder : EncoderGhosts E W C) (writer : WriterGhosts W) where
  -- the encoder handed these bytes to its writer as one piece
  abbrev pub Writes : List ℕ → E → Result Unit EncodeError → E → Type 0
  Writes bytes old res new = Written writer.meaning (encoder.writer old) bytes res (encoder.writer new)

  -- the encoder offered these pieces to its writer, in order, up to the first that does not fit
  abbrev pub Offers : List (List ℕ) → E → Result Unit EncodeError → E → Type 0
  Offers pieces old res new = Offered writer.meaning (encoder.writer old) pieces res (encoder.writer new)

module _ {D R C : Type 0} (decoder : DecoderGhosts D R C) (policy : PolicyGhosts C) (reader : ReaderGhosts R) where
  -- the decoder answered what the reading says, let go the bytes that it uses, and left the count that it says
  abbrev pub Reads : {A : Type 0} → Reading A → D → Result A DecodeError → D → Type 0
  Reads f old res new = Did f policy.meaning reader.meaning (decoder.reader old) (decoder.count old) res (decoder.reader new) (decoder.count new)

  -- the bytes that wait at the decoder's reader
  abbrev pub waiting : D → List ℕ
  waiting d = reader.meaning.waiting (decoder.reader d)

  -- what the decoder's reader let go is paid for by what was claimed
  abbrev pub Charges : {A : Type 0} → D → Result A DecodeError → D → Type 0
  Charges old res new = Charged policy.meaning.limit (waiting old) (decoder.count old) (is_ok res) (waiting new) (decoder.count new)

  module _ {A : Type 0} (S : Endianness → IntEncoding → List ℕ → A → Type 0) where
    -- what the decoder's reader let go stands for the value that was given
    abbrev pub StandsFor : D → Result A DecodeError → D → Type 0
    StandsFor old res new = Stood (S policy.meaning.order policy.meaning.encoding) (waiting old) res (waiting new)

    -- where bytes that stand for a value wait and its claim is granted, that value is given and just these bytes are let go
    abbrev pub Finds : (A → ℕ) → D → Result A DecodeError → D → Type 0
    Finds claim old res new = Found (S policy.meaning.order policy.meaning.encoding) claim policy.meaning.limit (decoder.count old) (waiting old) res (waiting new)
