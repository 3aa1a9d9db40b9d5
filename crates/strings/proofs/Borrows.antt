-- What a call that hands out a byte string or a text owes, from what it did.
use Rattle.std.proofs.Common.{◌≡◌, ℕ, List, Ok, Err, Result, sym, refl, Bor}
use Rattle.format.specs.Refusals.{answer, decode_refusal}
use Rattle.format.specs.Standing.{StringStands, TextStands}
use Rattle.format.specs.Texts.{text_verdict}
use Rattle.format.specs.declared.config.Endianness.{Endianness}
use Rattle.format.specs.declared.config.IntEncoding.{IntEncoding}
use Rattle.format.specs.declared.error.DecodeError.{DecodeError}
use Rattle.interfaces.proofs.Doing.{did_charged}
use Rattle.interfaces.proofs.Standing.{did_stood, did_found}
use Rattle.interfaces.specs.Decodes.{Did, lent}
use Rattle.interfaces.specs.Policies.{PolicyMeaning}
use Rattle.interfaces.specs.Readers.{ReaderMeaning, ReaderLaws}
use Rattle.readings.proofs.Strings.{string_lawful, string_returns, string_accepts, text_lawful, text_returns, text_accepts}
use Rattle.readings.specs.Accepts.{Accepts}
use Rattle.readings.specs.Laws.{Returns, Lawful}
use Rattle.readings.specs.Readings.{Reading}
use Rattle.readings.specs.Strings.{string_reading, text_judging, text_reading}
use Rattle.strings.specs.Strings.{string_claim, Borrowed}

module _ {R : Type 0} {m : ReaderMeaning R} (laws : ReaderLaws m) (p : PolicyMeaning) where
  borrowed : (f : Endianness → IntEncoding → Reading (List ℕ)) (S : Endianness → IntEncoding → List ℕ → List ℕ → Type 0) → Lawful 2 0 0 (f p.order p.encoding) → ((bs v : List ℕ) → S p.order p.encoding bs v → Returns (f p.order p.encoding) bs (string_claim v) v) → Accepts (f p.order p.encoding) (S p.order p.encoding) → {r : R} {n : ℕ} {res : Result (List ℕ) DecodeError} {r' : R} {n' : ℕ} → Did (f p.order p.encoding) p m r n res r' n' → Borrowed f S p m r n res r' n'
  borrowed f S lawful returns accepts {res = res} d = record {
    did = d;
    charged = did_charged laws p lawful d;
    stood = did_stood laws p (f p.order p.encoding) lawful.within (S p.order p.encoding) accepts res d;
    found = did_found laws p (f p.order p.encoding) lawful.within (S p.order p.encoding) string_claim returns d;
  }

  pub string_borrowed : {r : R} {n : ℕ} {res : Result (List ℕ) DecodeError} {r' : R} {n' : ℕ} → Did (string_reading p.order p.encoding) p m r n res r' n' → Borrowed string_reading StringStands p m r n res r' n'
  string_borrowed = borrowed string_reading StringStands (string_lawful p.order p.encoding) (string_returns p.order p.encoding) (string_accepts p.order p.encoding)

  pub text_borrowed : {r : R} {n : ℕ} {res : Result (List ℕ) DecodeError} {r' : R} {n' : ℕ} → Did (text_reading p.order p.encoding) p m r n res r' n' → Borrowed text_reading TextStands p m r n res r' n'
  text_borrowed = borrowed text_reading TextStands (text_lawful p.order p.encoding) (text_returns p.order p.encoding) (text_accepts p.order p.encoding)

  -- judging reads nothing
  pub judged_did : (bs : List ℕ) (res : Result (Bor (List ℕ)) DecodeError) → answer decode_refusal (λ x. x.now) res ≡ text_verdict bs → {r : R} {n : ℕ} → Did (text_judging bs) p m r n (lent res) r n
  judged_did bs (Ok part) e {r} = record { answers = e; holds = sym (laws.nothing r); counts = refl }
  judged_did bs (Err x) e {r} = record { answers = e; holds = sym (laws.nothing r); counts = refl }
