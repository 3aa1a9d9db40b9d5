-- Encoding one value and then another.
use Rattle.std.proofs.Common.{◌≡◌, ℕ, ◌&&◌, Ok, Err, Result, refl, ap₂, arith}
use Rattle.elements.specs.Compounds.{pair}
use Rattle.elements.specs.Elements.{ElementMeaning, Encoded}
use Rattle.format.specs.declared.error.EncodeError.{EncodeError}
use Rattle.interfaces.proofs.Offers.{offered_then, offered_stop}
use Rattle.interfaces.specs.Policies.{PolicyMeaning}
use Rattle.interfaces.specs.Writers.{WriterMeaning, WriterLaws}

module _ {W : Type 0} {m : WriterMeaning W} (laws : WriterLaws m) {A B : Type 0} (a : ElementMeaning A) (b : ElementMeaning B) (p : PolicyMeaning) where
  -- the first was accepted, and then the second did this
  pub both_encoded : {w w₁ w₂ : W} {x : A} {y : B} {u : Unit} {r : Result Unit EncodeError} → Encoded a p m w x (Ok u) w₁ → Encoded b p m w₁ y r w₂ → Encoded (pair a b) p m w (x, y) r w₂
  both_encoded f s = record { offers = offered_then laws f.offers s.offers; good = λ ok. ap₂ ◌&&◌ (f.good refl) (s.good ok) }

  -- the first was refused, so the second is not offered
  pub first_refused : {w w' : W} {x : A} (y : B) {z : EncodeError} → Encoded a p m w x (Err z) w' → Encoded (pair a b) p m w (x, y) (Err z) w'
  first_refused y f = record {
    offers = offered_stop laws (b.writing p.order p.encoding y) f.offers;
    good = λ ok. let n : ◌≡◌ {A = ℕ} 0 1 = cc in absurd (omega arith);
  }
