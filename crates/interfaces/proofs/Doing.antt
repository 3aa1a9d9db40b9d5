-- Calls that read, one after another, do what `then` says.
use Rattle.std.proofs.Common.{◌≡◌, ℕ, ◌+◌, ◌*◌, ◌≤◌, min, true, false, cond, List, length, is_ok, Some, None, Ok, Err, Option, Result, sym, refl, ap, ◌∙◌, subst, arith, length-drop}
use mathlib.Core.Path.{fun_ext}
use Rattle.format.specs.Refusals.{Answer, given, refused, Refusal, answer, decode_refusal}
use Rattle.format.specs.declared.error.DecodeError.{DecodeError}
use Rattle.interfaces.specs.Decodes.{source, Did}
use Rattle.interfaces.specs.Policies.{PolicyMeaning}
use Rattle.interfaces.specs.Readers.{ReaderMeaning, ReaderLaws}
use Rattle.readings.proofs.Charges.{Within}
use Rattle.readings.specs.Claims.{capped}
use Rattle.readings.specs.Laws.{accepted, Lawful, Charged}
use Rattle.readings.specs.Readings.{Source, Outcome, Reading, giving, refusing, in_view, moved, resumed, ◌then◌}

abbrev a_source : Option ℕ → ℕ → List ℕ → (ℕ → ℕ) → Source
a_source l c w v = record { waiting = w; view = v; limit = l; count = c }

module _ {R : Type 0} {m : ReaderMeaning R} (laws : ReaderLaws m) where
  -- what can be seen after k more bytes
  view_moved : (r : R) (u k : ℕ) → u ≤ length (m.waiting r) → m.view (m.gone (min k (length (m.waiting (m.gone u r)))) (m.gone u r)) ≡ m.view (m.gone (min (u + k) (length (m.waiting r))) r)
  view_moved r u k h =
      let left : length (m.waiting (m.gone u r)) + u ≡ length (m.waiting r) = omega (arith, ap length (laws.leaves u r h), length-drop u (m.waiting r)) in
      let b = min k (length (m.waiting (m.gone u r))) in
      ap m.view (laws.adds u b r (omega arith) ∙ ap (λ n. m.gone n r) (omega arith))

  pub source_moved : (l : Option ℕ) (r : R) (n u c : ℕ) → u ≤ length (m.waiting r) → source m l (m.gone u r) c ≡ moved u c (source m l r n)
  source_moved l r n u c h = λ i. a_source l c (laws.leaves u r h i) (fun_ext (λ k. view_moved r u k h) i)

  pub did_giving : {A : Type 0} {p : PolicyMeaning} (a : A) {r : R} {n : ℕ} → Did (giving a) p m r n (Ok a) r n
  did_giving a {r} = record { answers = refl; holds = sym (laws.nothing r); counts = refl }

  pub did_refusing : {A : Type 0} {p : PolicyMeaning} (z : Refusal) (x : DecodeError) {r : R} {n : ℕ} → decode_refusal x ≡ z → Did {A = A} (refusing z) p m r n (Err x) r n
  did_refusing z x {r} e = record { answers = ap refused e; holds = sym (laws.nothing r); counts = refl }

  -- the first gave a value, and then the second was called
  pub did_then : {A B : Type 0} {p : PolicyMeaning} {f : Reading A} (g : A → Reading B) → Within f → ((a : A) → Within (g a)) → {a : A} {r : R} {n : ℕ} {r₁ : R} {n₁ : ℕ} {res : Result B DecodeError} {r₂ : R} {n₂ : ℕ} → Did f p m r n (Ok a) r₁ n₁ → Did (g a) p m r₁ n₁ res r₂ n₂ → Did (f then g) p m r n res r₂ n₂
  did_then {A} {B} {p} {f} g kf kg {a} {r} {n} {r₁} {n₁} {res} {r₂} {n₂} d₁ d₂ =
      let l = p.limit in
      let s = source m l r n in
      let u = (f s).used in
      let c = (f s).counted in
      let t = moved u c s in
      let next : source m l r₁ n₁ ≡ t = (λ i. source m l (d₁.holds i) (d₁.counts i)) ∙ source_moved l r n u c (kf s) in
      let eq : resumed g s (given a) u c ≡ (f then g) s = ap (λ (x : Answer A). resumed g s x u c) d₁.answers in
      let fits : u + (g a t).used ≤ length (m.waiting r) = let h = kg a t in omega (arith, kf s, length-drop u (m.waiting r)) in
      record {
        answers = d₂.answers ∙ ap (λ (x : Source). (g a x).answer) next ∙ ap (λ (o : Outcome B). o.answer) eq;
        holds =
            d₂.holds ∙ ap (λ (x : Source). m.gone (g a x).used r₁) next ∙ ap (m.gone (g a t).used) d₁.holds ∙ laws.adds u (g a t).used r fits
            ∙ ap (λ (o : Outcome B). m.gone o.used r) eq;
        counts = d₂.counts ∙ ap (λ (x : Source). (g a x).counted) next ∙ ap (λ (o : Outcome B). o.counted) eq;
      }

-- the first was refused, and nothing more was called
pub did_stop : {R A B : Type 0} {m : ReaderMeaning R} {p : PolicyMeaning} {f : Reading A} (g : A → Reading B) {x : DecodeError} {r : R} {n : ℕ} {r' : R} {n' : ℕ} → Did f p m r n (Err x) r' n' → Did (f then g) p m r n (Err x) r' n'
did_stop {R} {A} {B} {m} {p} {f} g {x} {r} {n} {r'} {n'} d =
    let s = source m p.limit r n in
    let eq : resumed g s (refused (decode_refusal x)) (f s).used (f s).counted ≡ (f then g) s = ap (λ (a : Answer A). resumed g s a (f s).used (f s).counted) d.answers in
    record {
      answers = ap (λ (o : Outcome B). o.answer) eq;
      holds = d.holds ∙ ap (λ (o : Outcome B). m.gone o.used r) eq;
      counts = d.counts ∙ ap (λ (o : Outcome B). o.counted) eq;
    }

-- the same reading under another text
pub did_is : {R A : Type 0} {m : ReaderMeaning R} {p : PolicyMeaning} {f h : Reading A} {res : Result A DecodeError} {r : R} {n : ℕ} {r' : R} {n' : ℕ} → f ≡ h → Did f p m r n res r' n' → Did h p m r n res r' n'
did_is {R} {A} {m} {p} {f} {h} {res} {r} {n} {r'} {n'} e d = subst (λ (x : Reading A). Did x p m r n res r' n') e d

-- two readings that agree at the source of the call
pub did_at : {R A : Type 0} {m : ReaderMeaning R} {p : PolicyMeaning} {f h : Reading A} {res : Result A DecodeError} {r : R} {n : ℕ} {r' : R} {n' : ℕ} → f (source m p.limit r n) ≡ h (source m p.limit r n) → Did f p m r n res r' n' → Did h p m r n res r' n'
did_at {R} {A} {m} {p} {f} {h} {res} {r} {n} {r'} {n'} e d = record {
  answers = d.answers ∙ ap (λ (o : Outcome A). o.answer) e;
  holds = d.holds ∙ ap (λ (o : Outcome A). m.gone o.used r) e;
  counts = d.counts ∙ ap (λ (o : Outcome A). o.counted) e;
}

-- what a reader has in view is what its source has
pub source_view : {R : Type 0} {m : ReaderMeaning R} → ReaderLaws m → (l : Option ℕ) (r : R) (n : ℕ) → in_view (source m l r n) ≡ m.view r
source_view {R} {m} laws l r n =
    ap (λ x. min (m.view x) (length (m.waiting r))) (ap (λ k. m.gone k r) (omega arith) ∙ laws.nothing r) ∙ (let w = laws.within r in omega arith)

-- a call that did what a lawful reading says is charged as the reading is
module _ {R A : Type 0} {m : ReaderMeaning R} (laws : ReaderLaws m) (p : PolicyMeaning) {f : Reading A} (lawful : Lawful 2 0 0 f) where
  charged_by : (l : Option ℕ) → p.limit ≡ l → {r : R} {n : ℕ} (res : Result A DecodeError) {r' : R} {n' : ℕ} → Did f p m r n res r' n' → Charged l (m.waiting r) n (is_ok res) (m.waiting r') n'
  charged_by None e res d = tt
  charged_by (Some l) e {r} {n} res {r'} {n'} d =
      let s = source m p.limit r n in
      let u = (f s).used in
      let left : length (m.waiting r') + u ≡ length (m.waiting r) = omega (arith, lawful.within s, ap (λ x. length (m.waiting x)) d.holds, ap length (laws.leaves u r (lawful.within s)), length-drop u (m.waiting r)) in
      by res d.answers (lawful.pays s l e) left
    where
      by : (x : Result A DecodeError) → answer decode_refusal (λ v. v) x ≡ (f (source m p.limit r n)).answer → 3 * capped l n + 2 * (f (source m p.limit r n)).used + cond (accepted (f (source m p.limit r n)).answer) 0 0 ≤ 3 * capped l (f (source m p.limit r n)).counted + 0 + cond (accepted (f (source m p.limit r n)).answer) 0 2 → length (m.waiting r') + (f (source m p.limit r n)).used ≡ length (m.waiting r) → 3 * capped l n + 2 * length (m.waiting r) ≤ 3 * capped l n' + 2 * length (m.waiting r') + cond (is_ok x) 0 2
      by (Ok v) a h left = let b : accepted (f (source m p.limit r n)).answer ≡ true = ap accepted (sym a) in let k = rw b at h in omega (arith, k, left, ap (capped l) d.counts)
      by (Err z) a h left = let b : accepted (f (source m p.limit r n)).answer ≡ false = ap accepted (sym a) in let k = rw b at h in omega (arith, k, left, ap (capped l) d.counts)

  pub did_charged : {r : R} {n : ℕ} {res : Result A DecodeError} {r' : R} {n' : ℕ} → Did f p m r n res r' n' → Charged p.limit (m.waiting r) n (is_ok res) (m.waiting r') n'
  did_charged {r} {n} {res} {r'} {n'} d = charged_by p.limit refl res d
