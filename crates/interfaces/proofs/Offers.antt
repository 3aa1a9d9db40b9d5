-- Offering pieces: one `write`, one list after another, and a stop.
use Rattle.std.proofs.Common.{◌≡◌, ℕ, ◌+◌, ◌-◌, ◌<◌, ◌≤◌, Bool, true, false, leb, List, [], ◌∷◌, ◌++◌, length, Ok, Err, Result, sym, refl, ap, ◌∙◌, append-nil, arith, length-append, le-leb, leb-false, leb-true}
use borrow.Author.Tests.{lt-leb}
use Rattle.format.specs.Refusals.{given, refused, encode_refusal}
use Rattle.format.specs.declared.error.EncodeError.{EncodeError}
use Rattle.interfaces.proofs.Leading.{leading_next, leading_stop, leading_go, leading_halt, leading_all, leading_fits}
use Rattle.format.proofs.Pieces.{joined_append}
use Rattle.format.specs.Pieces.{joined}
use Rattle.interfaces.specs.Pieces.{leading, Offered}
use Rattle.interfaces.specs.Writers.{WriterMeaning, WriterLaws, Written, verdict}
use Rattle.std.proofs.lemmas.Bool.{cond-true, cond-false}

-- an accepted answer says that the bytes fit, and a refused one that they do not
fits_from : (b : Bool) (u : Unit) → given u ≡ verdict b → b ≡ true
fits_from true u e = refl
fits_from false u e = let z : ◌≡◌ {A = ℕ} 0 1 = cc in absurd (omega arith)

full_from : (b : Bool) (x : EncodeError) → refused (encode_refusal x) ≡ verdict b → b ≡ false
full_from true x e = let z : ◌≡◌ {A = ℕ} 0 1 = cc in absurd (omega arith)
full_from false x e = refl

-- whether the second part fits what the first has left
fit_both : (x y n k : ℕ) → k + x ≡ n → (b : Bool) → leb y k ≡ b → leb (x + y) n ≡ b
fit_both x y n k e true h = le-leb (x + y) n (let g = leb-true y k h in omega arith)
fit_both x y n k e false h = lt-leb (x + y) n (let g = leb-false y k h in omega arith)

module _ {W : Type 0} {m : WriterMeaning W} (laws : WriterLaws m) where
  -- one `write` offers one piece
  pub offered_one : {w w' : W} {bytes : List ℕ} {r : Result Unit EncodeError} → Written m w bytes r w' → Offered m w (bytes ∷ []) r w'
  offered_one {w} {w'} {bytes} {r} h = record {
    answers = h.answers ∙ ap (λ x. verdict (leb (length x) (m.free w))) (sym (append-nil bytes));
    holds = by (leb (length bytes) (m.free w)) refl;
  }
    where
      by : (b : Bool) → leb (length bytes) (m.free w) ≡ b → w' ≡ m.takes (joined (leading (m.free w) (bytes ∷ []))) w
      by true e =
          h.holds ∙ cond-true (leb (length bytes) (m.free w)) (m.takes bytes w) w e
          ∙ ap (λ x. m.takes x w) (sym (append-nil bytes))
          ∙ ap (λ ps. m.takes (joined ps) w) (sym (leading_next (m.free w) bytes [] (leb-true (length bytes) (m.free w) e)))
      by false e =
          h.holds ∙ cond-false (leb (length bytes) (m.free w)) (m.takes bytes w) w e ∙ sym (laws.nothing w)
          ∙ ap (λ ps. m.takes (joined ps) w) (sym (leading_stop (m.free w) bytes [] (leb-false (length bytes) (m.free w) e)))

  -- no piece at all
  pub offered_none : {w : W} → Offered m w [] (Ok tt) w
  offered_none {w} = record { answers = ap verdict (sym (le-leb 0 (m.free w) (omega arith))); holds = sym (laws.nothing w) }

  -- an accepted list and then another
  pub offered_then : {w w₁ w₂ : W} {ps qs : List (List ℕ)} {u : Unit} {r : Result Unit EncodeError} → Offered m w ps (Ok u) w₁ → Offered m w₁ qs r w₂ → Offered m w (ps ++ qs) r w₂
  offered_then {w} {w₁} {w₂} {ps} {qs} {u} {r} p q =
      let n = m.free w in
      let a = joined ps in
      let fits : length a ≤ n = leb-true (length a) n (fits_from (leb (length a) n) u p.answers) in
      let first : w₁ ≡ m.takes a w = p.holds ∙ ap (λ x. m.takes (joined x) w) (leading_all n ps fits) in
      let room : m.free w₁ + length a ≡ n = ap (λ x. m.free x + length a) first ∙ laws.falls a w fits in
      let b = joined (leading (m.free w₁) qs) in
      let small : length b ≤ m.free w₁ = leading_fits (m.free w₁) qs in
      let left : n - length a ≡ m.free w₁ = omega arith in
      record {
        answers =
            q.answers
            ∙ ap verdict (sym (fit_both (length a) (length (joined qs)) n (m.free w₁) room (leb (length (joined qs)) (m.free w₁)) refl))
            ∙ ap (λ k. verdict (leb k n)) (sym (ap length (joined_append ps qs) ∙ length-append a (joined qs)));
        holds =
            q.holds ∙ ap (m.takes b) first ∙ laws.joins a b w (omega arith)
            ∙ ap (λ x. m.takes x w) (sym (ap joined (leading_go n ps qs fits ∙ ap (λ k. ps ++ leading k qs) left) ∙ joined_append ps (leading (m.free w₁) qs)));
      }

  -- a refused list: what would have come behind it is not offered
  pub offered_stop : {w w' : W} {ps : List (List ℕ)} (qs : List (List ℕ)) {x : EncodeError} → Offered m w ps (Err x) w' → Offered m w (ps ++ qs) (Err x) w'
  offered_stop {w} {w'} {ps} qs {x} p =
      let n = m.free w in
      let a = joined ps in
      let full : n < length a = leb-false (length a) n (full_from (leb (length a) n) x p.answers) in
      let l = ap length (joined_append ps qs) ∙ length-append a (joined qs) in
      record {
        answers = p.answers ∙ ap verdict (lt-leb (length a) n full ∙ sym (lt-leb (length (joined (ps ++ qs))) n (omega (arith, l))));
        holds = p.holds ∙ ap (λ y. m.takes (joined y) w) (sym (leading_halt n ps qs full));
      }
