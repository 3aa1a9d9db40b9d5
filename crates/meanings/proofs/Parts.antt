-- Calls of `decode` that decode a compound type: a tag or a first part that was given, and then a part.
use Rattle.std.proofs.Common.{◌≡◌, ℕ, Bool, true, Some, Ok, Err, Result, sym, refl, ap, ◌∙◌, subst}
use Rattle.format.specs.declared.error.DecodeError.{DecodeError}
use Rattle.format.specs.declared.error.IntegerType.TheVariants.{U32}
use Rattle.interfaces.proofs.Doing.{did_then, did_stop, did_is, did_giving}
use Rattle.interfaces.specs.Decodes.{Did, Passes}
use Rattle.interfaces.specs.Policies.{PolicyMeaning}
use Rattle.interfaces.specs.Readers.{ReaderMeaning, ReaderLaws}
use Rattle.meanings.proofs.Decodes.{lawful}
use Rattle.elements.specs.Compounds.{option, result, bound, pair}
use Rattle.elements.specs.Elements.{ElementMeaning}
use Rattle.meanings.specs.Decodes.{ElementLaws, Decoded}
use Rattle.format.specs.declared.config.Endianness.{Endianness}
use Rattle.format.specs.declared.config.IntEncoding.{IntEncoding}
use Rattle.elements.specs.Scalars.{byte, unsigned}
use Rattle.readings.proofs.Charges.{Within, giving_within, then_within}
use Rattle.readings.proofs.Compounds.{option_after_lawful, result_after_lawful, bound_after_lawful}
use Rattle.readings.proofs.Integers.{integer_lawful}
use Rattle.readings.proofs.Scalars.{byte_lawful}
use Rattle.readings.specs.Compounds.{option_reading, option_after, result_reading, result_after, bound_reading, bound_after, pair_reading}
use Rattle.readings.specs.Integers.{integer_reading}
use Rattle.readings.specs.Scalars.{byte_reading}
use Rattle.readings.specs.Readings.{Reading, giving, ◌then◌}
use Rattle.std.proofs.lemmas.Bool.{and_from}
use Rattle.std.proofs.lemmas.Result.{err_from_is_err_and}
use Rattle.std.specs.Prelude.{IsErrAnd}
use Rattle.std.specs.declared.ops.Bound.{Bound}
use Rattle.std.specs.declared.ops.Bound.TheVariants.{Included, Excluded}

-- what was given, turned into a compound value; a fault stays
abbrev pub turned : {A B : Type 0} → (A → B) → Result A DecodeError → Result B DecodeError
turned h (Ok v) = Ok (h v)
turned h (Err x) = Err x

-- a call that handed on the fault of a part
pub handed_on : {A R : Type 0} {m : ReaderMeaning R} {p : PolicyMeaning} {e : ElementMeaning A} {f : Endianness → IntEncoding → Reading A} {r r' : R} {n n' : ℕ} {x : DecodeError} (res : Result A DecodeError) → IsErrAnd res (λ y. y ≡ x) → Decoded e f p m r n (Err x) r' n' → Decoded e f p m r n res r' n'
handed_on {A} {R} {m} {p} {e} {f} {r} {r'} {n} {n'} res h d = let q = err_from_is_err_and res h in subst (λ (y : Result A DecodeError). Decoded e f p m r n y r' n') (sym (q.1 ∙ ap Err q.2)) d

passes_turned : {A B : Type 0} (t : A → Bool) (u : B → Bool) (h : A → B) → ((v : A) → t v ≡ true → u (h v) ≡ true) → (res : Result A DecodeError) → Passes t res → Passes u (turned h res)
passes_turned t u h k (Ok v) e = k v e
passes_turned t u h k (Err x) e = tt

module _ {R : Type 0} {m : ReaderMeaning R} (readers : ReaderLaws m) (p : PolicyMeaning) where
  -- after the first reading gave x, the second is the part's, turned
  did_part : {X A B : Type 0} {f : Reading X} (g : X → Reading B) → Within f → ((x : X) → Within (g x)) → (k : Reading A) → Within k → (h : A → B) {x : X} → g x ≡ (k then (λ v. giving (h v))) → {r : R} {n : ℕ} {r₁ : R} {n₁ : ℕ} → Did f p m r n (Ok x) r₁ n₁ → (res : Result A DecodeError) {r₂ : R} {n₂ : ℕ} → Did k p m r₁ n₁ res r₂ n₂ → Did (f then g) p m r n (turned h res) r₂ n₂
  did_part g kf kg k kk h e d₁ (Ok v) d₂ = did_then readers g kf kg d₁ (did_is (sym e) (did_then readers (λ y. giving (h y)) kk (λ y. giving_within (h y)) d₂ (did_giving readers (h v))))
  did_part g kf kg k kk h e d₁ (Err x) d₂ = did_then readers g kf kg d₁ (did_is (sym e) (did_stop (λ y. giving (h y)) d₂))

  module _ {A : Type 0} (e : ElementMeaning A) (f : Endianness → IntEncoding → Reading A) (laws : ElementLaws e f) where
    abbrev part : Reading A
    part = f p.order p.encoding

    part_within : Within part
    part_within = laws.within p.order p.encoding

    pub some_decoded : {r : R} {n : ℕ} {r₁ : R} {n₁ x : ℕ} → Decoded byte (λ o i. byte_reading) p m r n (Ok x) r₁ n₁ → x ≡ 1 → (res : Result A DecodeError) {r₂ : R} {n₂ : ℕ} → Decoded e f p m r₁ n₁ res r₂ n₂ → Decoded (option e) (λ o i. option_reading (f o i)) p m r n (turned Some res) r₂ n₂
    some_decoded tag is res d = record {
      did = did_part (option_after part) byte_lawful.within (λ y. (option_after_lawful part (lawful e f laws p.order p.encoding) y).within) part part_within Some (ap (option_after part) is) tag.did res d.did;
      good = passes_turned e.valid (option e).valid Some (λ v h. h) res d.good;
    }

    -- the two cases of a bound that have a value
    bound_decoded : (k : ℕ) (h : A → Bound A) → bound_after part k ≡ (part then (λ v. giving (h v))) → ((v : A) → e.valid v ≡ true → (bound e).valid (h v) ≡ true) → {r : R} {n : ℕ} {r₁ : R} {n₁ x : ℕ} → Decoded (unsigned 4) (integer_reading U32) p m r n (Ok x) r₁ n₁ → x ≡ k → (res : Result A DecodeError) {r₂ : R} {n₂ : ℕ} → Decoded e f p m r₁ n₁ res r₂ n₂ → Decoded (bound e) (λ o i. bound_reading o i (f o i)) p m r n (turned h res) r₂ n₂
    bound_decoded k h same good tag is res d = record {
      did = did_part (bound_after part) (integer_lawful U32 p.order p.encoding).within (λ y. (bound_after_lawful part (lawful e f laws p.order p.encoding) y).within) part part_within h (ap (bound_after part) is ∙ same) tag.did res d.did;
      good = passes_turned e.valid (bound e).valid h good res d.good;
    }

    pub included_decoded : {r : R} {n : ℕ} {r₁ : R} {n₁ x : ℕ} → Decoded (unsigned 4) (integer_reading U32) p m r n (Ok x) r₁ n₁ → x ≡ 1 → (res : Result A DecodeError) {r₂ : R} {n₂ : ℕ} → Decoded e f p m r₁ n₁ res r₂ n₂ → Decoded (bound e) (λ o i. bound_reading o i (f o i)) p m r n (turned Included res) r₂ n₂
    included_decoded = bound_decoded 1 Included refl (λ v h. h)

    pub excluded_decoded : {r : R} {n : ℕ} {r₁ : R} {n₁ x : ℕ} → Decoded (unsigned 4) (integer_reading U32) p m r n (Ok x) r₁ n₁ → x ≡ 2 → (res : Result A DecodeError) {r₂ : R} {n₂ : ℕ} → Decoded e f p m r₁ n₁ res r₂ n₂ → Decoded (bound e) (λ o i. bound_reading o i (f o i)) p m r n (turned Excluded res) r₂ n₂
    excluded_decoded = bound_decoded 2 Excluded refl (λ v h. h)

  module _ {A B : Type 0} (a : ElementMeaning A) (b : ElementMeaning B) (f : Endianness → IntEncoding → Reading A) (g : Endianness → IntEncoding → Reading B) (first : ElementLaws a f) (second : ElementLaws b g) where
    abbrev after_tag : ℕ → Reading (Result A B)
    after_tag = result_after (f p.order p.encoding) (g p.order p.encoding)

    -- the two cases of a result
    result_decoded : {C : Type 0} (c : ElementMeaning C) (q : Endianness → IntEncoding → Reading C) → ElementLaws c q → (k : ℕ) (h : C → Result A B) → after_tag k ≡ (q p.order p.encoding then (λ v. giving (h v))) → ((v : C) → c.valid v ≡ true → (result a b).valid (h v) ≡ true) → {r : R} {n : ℕ} {r₁ : R} {n₁ x : ℕ} → Decoded (unsigned 4) (integer_reading U32) p m r n (Ok x) r₁ n₁ → x ≡ k → (res : Result C DecodeError) {r₂ : R} {n₂ : ℕ} → Decoded c q p m r₁ n₁ res r₂ n₂ → Decoded (result a b) (λ o i. result_reading o i (f o i) (g o i)) p m r n (turned h res) r₂ n₂
    result_decoded c q laws k h same good tag is res d = record {
      did = did_part after_tag (integer_lawful U32 p.order p.encoding).within (λ y. (result_after_lawful (f p.order p.encoding) (g p.order p.encoding) (lawful a f first p.order p.encoding) (lawful b g second p.order p.encoding) y).within) (q p.order p.encoding) (laws.within p.order p.encoding) h (ap after_tag is ∙ same) tag.did res d.did;
      good = passes_turned c.valid (result a b).valid h good res d.good;
    }

    pub ok_decoded : {r : R} {n : ℕ} {r₁ : R} {n₁ x : ℕ} → Decoded (unsigned 4) (integer_reading U32) p m r n (Ok x) r₁ n₁ → x ≡ 0 → (res : Result A DecodeError) {r₂ : R} {n₂ : ℕ} → Decoded a f p m r₁ n₁ res r₂ n₂ → Decoded (result a b) (λ o i. result_reading o i (f o i) (g o i)) p m r n (turned Ok res) r₂ n₂
    ok_decoded = result_decoded a f first 0 Ok refl (λ v h. h)

    pub err_decoded : {r : R} {n : ℕ} {r₁ : R} {n₁ x : ℕ} → Decoded (unsigned 4) (integer_reading U32) p m r n (Ok x) r₁ n₁ → x ≡ 1 → (res : Result B DecodeError) {r₂ : R} {n₂ : ℕ} → Decoded b g p m r₁ n₁ res r₂ n₂ → Decoded (result a b) (λ o i. result_reading o i (f o i) (g o i)) p m r n (turned Err res) r₂ n₂
    err_decoded = result_decoded b g second 1 Err refl (λ v h. h)

    pub pair_decoded : {r : R} {n : ℕ} {r₁ : R} {n₁ : ℕ} {v : A} → Decoded a f p m r n (Ok v) r₁ n₁ → (res : Result B DecodeError) {r₂ : R} {n₂ : ℕ} → Decoded b g p m r₁ n₁ res r₂ n₂ → Decoded (pair a b) (λ o i. pair_reading (f o i) (g o i)) p m r n (turned (λ w. (v, w)) res) r₂ n₂
    pair_decoded {v = v} d₁ res d₂ =
        let k = g p.order p.encoding in
        let kk = second.within p.order p.encoding in
        record {
          did = did_part (λ x. k then (λ y. giving (x, y))) (first.within p.order p.encoding) (λ x. then_within k (λ y. giving (x, y)) kk (λ y. giving_within {A = A × B} (x, y))) k kk (λ w. (v, w)) refl d₁.did res d₂.did;
          good = passes_turned b.valid (pair a b).valid (λ w. (v, w)) (λ w h. and_from (a.valid v) (b.valid w) d₁.good h) res d₂.good;
        }
