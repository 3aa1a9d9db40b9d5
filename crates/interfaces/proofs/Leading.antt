-- The leading pieces that fit.
use Rattle.std.proofs.Common.{◌≡◌, ℕ, ◌-◌, ◌<◌, ◌≤◌, Bool, true, false, leb, List, [], ◌∷◌, ◌++◌, length, sym, refl, ap, ◌∙◌, append-nil, arith, length-append, le-leb, leb-false, leb-true}
use borrow.Author.Tests.{lt-leb}
use Rattle.format.specs.Pieces.{joined}
use Rattle.interfaces.specs.Pieces.{leading}
use Rattle.std.proofs.lemmas.Bool.{cond-true, cond-false, cond_both}

-- a piece that fits, and one that does not
pub leading_next : (n : ℕ) (p : List ℕ) (ps : List (List ℕ)) → length p ≤ n → leading n (p ∷ ps) ≡ p ∷ leading (n - length p) ps
leading_next n p ps h = cond-true (leb (length p) n) (p ∷ leading (n - length p) ps) [] (le-leb (length p) n h)

pub leading_stop : (n : ℕ) (p : List ℕ) (ps : List (List ℕ)) → n < length p → leading n (p ∷ ps) ≡ []
leading_stop n p ps h = cond-false (leb (length p) n) (p ∷ leading (n - length p) ps) [] (lt-leb (length p) n h)

-- where the first pieces all fit, they lead
pub leading_go : (n : ℕ) (ps qs : List (List ℕ)) → length (joined ps) ≤ n → leading n (ps ++ qs) ≡ ps ++ leading (n - length (joined ps)) qs
leading_go n [] qs h = ap (λ k. leading k qs) (omega arith)
leading_go n (p ∷ ps) qs h =
    let l = length-append p (joined ps) in
    let first : length p ≤ n = omega arith in
    let rest : length (joined ps) ≤ n - length p = omega arith in
    leading_next n p (ps ++ qs) first ∙ ap (λ x. p ∷ x) (leading_go (n - length p) ps qs rest ∙ ap (λ k. ps ++ leading k qs) (omega arith))

-- where they do not, what comes behind them does not matter
halt_by : (n : ℕ) (p : List ℕ) (ps qs : List (List ℕ)) → n < length (p ++ joined ps) → (b : Bool) → leb (length p) n ≡ b → (n - length p < length (joined ps) → leading (n - length p) (ps ++ qs) ≡ leading (n - length p) ps) → leading n (p ∷ (ps ++ qs)) ≡ leading n (p ∷ ps)
halt_by n p ps qs h true e more =
    let first : length p ≤ n = leb-true (length p) n e in
    let rest : n - length p < length (joined ps) = omega (arith, length-append p (joined ps)) in
    leading_next n p (ps ++ qs) first ∙ ap (λ x. p ∷ x) (more rest) ∙ sym (leading_next n p ps first)
halt_by n p ps qs h false e more =
    let first : n < length p = leb-false (length p) n e in
    leading_stop n p (ps ++ qs) first ∙ sym (leading_stop n p ps first)

pub leading_halt : (n : ℕ) (ps qs : List (List ℕ)) → n < length (joined ps) → leading n (ps ++ qs) ≡ leading n ps
leading_halt n [] qs h = absurd (omega arith)
leading_halt n (p ∷ ps) qs h = halt_by n p ps qs h (leb (length p) n) refl (leading_halt (n - length p) ps qs)

pub leading_all : (n : ℕ) (ps : List (List ℕ)) → length (joined ps) ≤ n → leading n ps ≡ ps
leading_all n ps h = ap (leading n) (sym (append-nil ps)) ∙ leading_go n ps [] h ∙ append-nil ps

-- they fit
pub leading_fits : (n : ℕ) (ps : List (List ℕ)) → length (joined (leading n ps)) ≤ n
leading_fits n [] = omega arith
leading_fits n (p ∷ ps) =
    cond_both (leb (length p) n) (p ∷ leading (n - length p) ps) [] (λ x. length (joined x) ≤ n)
    (λ e. let first : length p ≤ n = leb-true (length p) n e in
    let rest = leading_fits (n - length p) ps in
    let l = length-append p (joined (leading (n - length p) ps)) in
    omega arith)
    (λ _. omega arith)
