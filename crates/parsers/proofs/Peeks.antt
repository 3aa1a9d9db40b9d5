-- A call that reads a variable integer by a peek, and one that cannot.
use Rattle.std.proofs.Common.{◌≡◌, ℕ, ◌+◌, ◌≤◌, min, Bool, true, false, cond, leb, List, take, Some, None, Ok, Err, Option, Result, sym, refl, ap, ◌∙◌, arith, leb-false, leb-true}
use Rattle.format.specs.Refusals.{refused, decode_refusal}
use Rattle.format.specs.declared.config.Endianness.{Endianness}
use Rattle.format.specs.declared.error.DecodeError.{DecodeError}
use Rattle.format.specs.declared.error.IntegerType.{IntegerType}
use Rattle.interfaces.proofs.Doing.{did_at, source_view}
use Rattle.interfaces.specs.Decodes.{source, Did}
use Rattle.interfaces.specs.Policies.{PolicyMeaning}
use Rattle.interfaces.specs.Readers.{ReaderMeaning, ReaderLaws}
use Rattle.parsers.proofs.Seen.{seen_value, seen_too_wide}
use Rattle.parsers.specs.Tags.{seen_in}
use Rattle.readings.proofs.Integers.{out_of_view}
use Rattle.readings.specs.Integers.{type_width, peek_name, tag_first, variable_reading}
use Rattle.readings.specs.Laws.{too_wide}
use Rattle.readings.specs.Readings.{Outcome}

none_from : (b : Bool) (xs : List ℕ) → ◌≡◌ {A = Option (List ℕ)} None (cond b (Some xs) None) → b ≡ false
none_from true xs e = let z : ◌≡◌ {A = ℕ} 0 1 = cc in absurd (omega arith)
none_from false xs e = refl

some_from : (b : Bool) (xs ys : List ℕ) → ◌≡◌ {A = Option (List ℕ)} (Some ys) (cond b (Some xs) None) → (b ≡ true) × (ys ≡ xs)
some_from true xs ys e = (refl, cc)
some_from false xs ys e = let z : ◌≡◌ {A = ℕ} 0 1 = cc in absurd (omega arith)

module _ {R : Type 0} {m : ReaderMeaning R} (laws : ReaderLaws m) (p : PolicyMeaning) (t : IntegerType) (o : Endianness) (r : R) (n w : ℕ) (wide : w ≡ type_width t) where
  abbrev peek : Option (List ℕ)
  peek = cond (leb (w + 1) (m.view r)) (Some (take (w + 1) (m.waiting r))) None

  -- the peek gave none
  pub unseen_did : {res : Result ℕ DecodeError} {r' : R} {n' : ℕ} → None ≡ peek → Did (tag_first t o) p m r n res r' n' → Did (variable_reading t o) p m r n res r' n'
  unseen_did e d =
      let less = leb-false (w + 1) (m.view r) (none_from (leb (w + 1) (m.view r)) (take (w + 1) (m.waiting r)) e) in
      did_at (out_of_view t o (source m p.limit r n) (omega (arith, less, wide, source_view laws p.limit r n))) d

  -- the peek gave these bytes
  seen : (bytes : List ℕ) → Some bytes ≡ peek → (type_width t + 1 ≤ m.view r) × (bytes ≡ take (type_width t + 1) (m.waiting r))
  seen bytes e =
      let k = some_from (leb (w + 1) (m.view r)) (take (w + 1) (m.waiting r)) bytes e in
      (omega (arith, leb-true (w + 1) (m.view r) k.0, wide), k.1 ∙ ap (λ x. take (x + 1) (m.waiting r)) wide)

  -- and a number was parsed of them
  pub value_did : (o' : Endianness) (bytes : List ℕ) (v u : ℕ) {r' : R} {n' : ℕ} → o' ≡ o → Some bytes ≡ peek → Ok (v, u) ≡ seen_in t o' bytes → r' ≡ m.gone (min u (m.view r)) r → n' ≡ n → Did (variable_reading t o) p m r n (Ok v) r' n'
  value_did o' bytes v u same e q holds counts =
      let k = seen bytes e in
      let s = source m p.limit r n in
      let x = seen_value t o s (omega (arith, k.0, source_view laws p.limit r n)) v u (q ∙ (λ i. seen_in t (same i) (k.1 i))) in
      record {
        answers = sym (ap (λ (y : Outcome ℕ). y.answer) x.0);
        holds = holds ∙ ap (λ y. m.gone y r) (omega (arith, x.1, k.0)) ∙ sym (ap (λ (y : Outcome ℕ). m.gone y.used r) x.0);
        counts = counts ∙ sym (ap (λ (y : Outcome ℕ). y.counted) x.0);
      }

  -- and their tag is too wide
  pub wide_did : (o' : Endianness) (bytes : List ℕ) (f : IntegerType) (z : DecodeError) → o' ≡ o → Some bytes ≡ peek → Err f ≡ seen_in t o' bytes → decode_refusal z ≡ too_wide (peek_name t) f → Did (variable_reading t o) p m r n (Err z) r n
  wide_did o' bytes f z same e q told =
      let k = seen bytes e in
      let s = source m p.limit r n in
      let x = seen_too_wide t o s (omega (arith, k.0, source_view laws p.limit r n)) f (q ∙ (λ i. seen_in t (same i) (k.1 i))) in
      record {
        answers = ap refused told ∙ sym (ap (λ (y : Outcome ℕ). y.answer) x);
        holds = sym (laws.nothing r) ∙ sym (ap (λ (y : Outcome ℕ). m.gone y.used r) x);
        counts = sym (ap (λ (y : Outcome ℕ). y.counted) x);
      }
