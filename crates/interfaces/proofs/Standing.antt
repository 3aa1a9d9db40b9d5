-- A call that did what a reading says gives the values that the bytes stand for.
use Rattle.std.proofs.Common.{◌≡◌, ℕ, List, ◌++◌, take, drop, Ok, Err, Result, sym, ap, ◌∙◌, arith}
use Rattle.format.specs.Refusals.{given, answer, decode_refusal}
use Rattle.format.specs.declared.error.DecodeError.{DecodeError}
use Rattle.interfaces.specs.Decodes.{source, Did}
use Rattle.interfaces.specs.Policies.{PolicyMeaning}
use Rattle.interfaces.specs.Readers.{ReaderMeaning, ReaderLaws}
use Rattle.interfaces.specs.Standing.{Stood, Found}
use Rattle.readings.proofs.Charges.{Within}
use Rattle.readings.specs.Accepts.{Accepts}
use Rattle.readings.specs.Laws.{Returns}
use Rattle.readings.specs.Readings.{Outcome, Reading}
use Rattle.std.proofs.lemmas.List.Prefix.{front_rest}
use Rattle.std.proofs.lemmas.List.{take-append-drop}

module _ {R A : Type 0} {m : ReaderMeaning R} (laws : ReaderLaws m) (p : PolicyMeaning) (f : Reading A) (within : Within f) (S : List ℕ → A → Type 0) where
  -- what was consumed stands for what was given
  pub did_stood : Accepts f S → {r : R} {n : ℕ} (res : Result A DecodeError) {r' : R} {n' : ℕ} → Did f p m r n res r' n' → Stood S (m.waiting r) res (m.waiting r')
  did_stood k {r} {n} (Ok v) {r'} {n'} d =
      let s = source m p.limit r n in
      let u = (f s).used in
      let left : m.waiting r' ≡ drop u (m.waiting r) = ap m.waiting d.holds ∙ laws.leaves u r (within s) in
      (take u (m.waiting r), (sym (take-append-drop u (m.waiting r)) ∙ ap (λ x. take u (m.waiting r) ++ x) (sym left), k s v (sym d.answers)))
  did_stood k (Err x) d = tt

  given_ok : (v : A) (res : Result A DecodeError) → answer decode_refusal (λ x. x) res ≡ given v → res ≡ Ok v
  given_ok v (Ok w) e = ap Ok cc
  given_ok v (Err x) e = let z : ◌≡◌ {A = ℕ} 0 1 = cc in absurd (omega arith)

  -- what stands for a value is given as it
  pub did_found : (claim : A → ℕ) → ((bs : List ℕ) (v : A) → S bs v → Returns f bs (claim v) v) → {r : R} {n : ℕ} {res : Result A DecodeError} {r' : R} {n' : ℕ} → Did f p m r n res r' n' → Found S claim p.limit n (m.waiting r) res (m.waiting r')
  did_found claim k {r} {n} {res} {r'} {n'} d bs rest v stands there granted =
      let s = source m p.limit r n in
      let e = k bs v stands s rest there granted in
      let u = (f s).used in
      let left : m.waiting r' ≡ drop u (m.waiting r) = ap m.waiting d.holds ∙ laws.leaves u r (within s) in (
        given_ok v res (d.answers ∙ ap (λ (o : Outcome A). o.answer) e),
        left ∙ ap (λ (o : Outcome A). drop o.used (m.waiting r)) e ∙ front_rest (m.waiting r) bs rest there,
      )
