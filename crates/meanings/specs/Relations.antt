-- That a relation between bytes and values is a type's: in the writing, in what is accepted and in what is not refused.
use Rattle.std.specs.Prelude.{◌≡◌, ℕ, true, List}
use Rattle.format.specs.Pieces.{joined}
use Rattle.format.specs.declared.config.Endianness.{Endianness}
use Rattle.format.specs.declared.config.IntEncoding.{IntEncoding}
use Rattle.elements.specs.Elements.{ElementMeaning}
use Rattle.readings.specs.Accepts.{Accepts}
use Rattle.readings.specs.Laws.{Returns}
use Rattle.readings.specs.Readings.{Reading}

-- a value's writing stands for it
abbrev pub WrittenStands : {A : Type 0} → ElementMeaning A → (Endianness → IntEncoding → List ℕ → A → Type 0) → Type 0
WrittenStands {A} e S = (o : Endianness) (i : IntEncoding) (v : A) → e.valid v ≡ true → S o i (joined (e.writing o i v)) v

-- For every byte order and integer encoding: a value's writing stands for it; where bytes that stand for a value begin what waits and its claim is granted, it
-- is given and just these bytes are used; and what was used in giving a value stands for it.
pub record Stands {A : Type 0} (e : ElementMeaning A) (f : Endianness → IntEncoding → Reading A) (S : Endianness → IntEncoding → List ℕ → A → Type 0) : Type 0 where
  pub writes : WrittenStands e S
  pub returns : (o : Endianness) (i : IntEncoding) (bs : List ℕ) (v : A) → S o i bs v → Returns (f o i) bs (e.claim v) v
  pub accepts : (o : Endianness) (i : IntEncoding) → Accepts (f o i) (S o i)
