-- What encoding a value to the front of a buffer answers and leaves.
use Rattle.std.specs.Prelude.{◌≡◌, ℕ, true, List, ◌++◌, length, drop, is_ok, nat_le}
use Rattle.elements.specs.Elements.{ElementMeaning}
use Rattle.encoding.specs.declared.Stored.{Stored}
use Rattle.format.specs.Refusals.{answer, encode_refusal}
use Rattle.format.specs.Pieces.{joined}
use Rattle.interfaces.specs.Pieces.{leading}
use Rattle.interfaces.specs.Policies.{PolicyMeaning}
use Rattle.interfaces.specs.Writers.{verdict}

-- a buffer with these bytes at its front and the rest as it was
abbrev pub fronted : List ℕ → List ℕ → List ℕ
fronted bytes old = bytes ++ drop (length bytes) old

-- the bytes of a value's writing, and those of the pieces before the first that does not fit n bytes
abbrev pub whole : {A : Type 0} → ElementMeaning A → PolicyMeaning → A → List ℕ
whole e p v = joined (e.writing p.order p.encoding v)

abbrev pub fitting : {A : Type 0} → ElementMeaning A → PolicyMeaning → A → ℕ → List ℕ
fitting e p v n = joined (leading n (e.writing p.order p.encoding v))

-- the value is accepted exactly if its whole writing fits the buffer; its front is then the pieces that fit, which are counted; and a value that was
-- accepted is one of its type
pub record EncodedInto {A : Type 0} (e : ElementMeaning A) (p : PolicyMeaning) (v : A) (old : List ℕ) (r : Stored) (new : List ℕ) : Type 0 where
  pub answers : answer encode_refusal (λ u. u) r.answer ≡ verdict (nat_le (length (whole e p v)) (length old))
  pub counts : r.len ≡ length (fitting e p v (length old))
  pub holds : new ≡ fronted (fitting e p v (length old)) old
  pub good : is_ok r.answer ≡ true → e.valid v ≡ true
