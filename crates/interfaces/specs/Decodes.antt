-- What a call that reads did to a decoder: to the reader inside, and to the count of claims.
use Rattle.std.specs.Prelude.{◌≡◌, ℕ, min, Bool, true, List, length, Ok, Err, Option, Result}
use Rattle.std.specs.Borrow.{Bor}
use Rattle.format.specs.Refusals.{answer, decode_refusal}
use Rattle.format.specs.declared.error.DecodeError.{DecodeError}
use Rattle.interfaces.specs.Policies.{PolicyMeaning}
use Rattle.interfaces.specs.Readers.{ReaderMeaning}
use Rattle.readings.specs.Readings.{Source, Reading}

-- a reader as a source, under a limit and at a count
abbrev pub source : {R : Type 0} → ReaderMeaning R → Option ℕ → R → ℕ → Source
source m l r n = record {
  waiting = m.waiting r;
  view = λ k. m.view (m.gone (min k (length (m.waiting r))) r);
  limit = l;
  count = n;
}

-- the call answered what the reading says, let go the bytes that it uses, and left the count that it says
pub record Did {A R : Type 0} (f : Reading A) (p : PolicyMeaning) (m : ReaderMeaning R) (r : R) (n : ℕ) (res : Result A DecodeError) (r' : R) (n' : ℕ) : Type 0 where
  pub answers : answer decode_refusal (λ v. v) res ≡ (f (source m p.limit r n)).answer
  pub holds : r' ≡ m.gone (f (source m p.limit r n)).used r
  pub counts : n' ≡ (f (source m p.limit r n)).counted

-- what a call that fills a buffer gave
abbrev pub filled : Result Unit DecodeError → List ℕ → Result (List ℕ) DecodeError
filled (Ok u) new = Ok new
filled (Err x) new = Err x

-- what a call that hands out a part of the input gave
abbrev pub lent : Result (Bor (List ℕ)) DecodeError → Result (List ℕ) DecodeError
lent (Ok part) = Ok part.now
lent (Err x) = Err x

-- the value that was given, if one was, passes this test
abbrev pub Passes : {A : Type 0} → (A → Bool) → Result A DecodeError → Type 0
Passes test (Ok v) = test v ≡ true
Passes test (Err x) = Unit {0}
