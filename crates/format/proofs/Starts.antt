-- The starts of characters.
use Rattle.std.proofs.Common.{◌≡◌, ℕ, zero, suc, ◌<◌, ◌≤◌, true, cond, ◌&&◌, eqb, ltb, ◌⊎◌, List, [], ◌∷◌, length, take, sym, refl, ap, ◌∙◌, ⊎_elim, arith, length-take}
use Rattle.format.proofs.WellFormed.{stands, forms, form_width_most}
use Rattle.format.specs.Texts.{Start, Longest, is_start, longest_start, start_length}
use Rattle.format.specs.Utf8.{utf8}
use Rattle.format.specs.WellFormed.{tail, second, form_width, well_formed, code_of}
use Rattle.std.proofs.lemmas.Bool.{true≢false, both_ways, ltb-true, lt-ltb, eqb-true, eq-eqb, and_parts, and_from, cond_both, cases_eq}
use Rattle.std.proofs.lemmas.Bool.Decides.{nat_tests}

-- a beginning of a form, but not the whole, is a start
front_start : (xs : List ℕ) → well_formed xs ≡ true → (k : ℕ) → k < length xs → is_start (take k xs) ≡ true
front_start xs e zero h = refl
front_start [] e (suc k) h = absurd (omega arith)
front_start (a ∷ []) e (suc k) h = absurd (omega arith)
front_start (a ∷ b ∷ []) e (suc zero) h = let p = and_parts (eqb (form_width a) 2) _ e in lt-ltb 1 (form_width a) (omega (arith, eqb-true (form_width a) 2 p.0))
front_start (a ∷ b ∷ []) e (suc (suc k)) h = absurd (omega arith)
front_start (a ∷ b ∷ c ∷ []) e (suc zero) h = let p = and_parts (eqb (form_width a) 3) _ e in lt-ltb 1 (form_width a) (omega (arith, eqb-true (form_width a) 3 p.0))
front_start (a ∷ b ∷ c ∷ []) e (suc (suc zero)) h =
    let p = and_parts (eqb (form_width a) 3) _ e in
    and_from (ltb 2 (form_width a)) (second a b) (lt-ltb 2 (form_width a) (omega (arith, eqb-true (form_width a) 3 p.0))) (and_parts (second a b) _ p.1).0
front_start (a ∷ b ∷ c ∷ []) e (suc (suc (suc k))) h = absurd (omega arith)
front_start (a ∷ b ∷ c ∷ d ∷ []) e (suc zero) h = let p = and_parts (eqb (form_width a) 4) _ e in lt-ltb 1 (form_width a) (omega (arith, eqb-true (form_width a) 4 p.0))
front_start (a ∷ b ∷ c ∷ d ∷ []) e (suc (suc zero)) h =
    let p = and_parts (eqb (form_width a) 4) _ e in
    and_from (ltb 2 (form_width a)) (second a b) (lt-ltb 2 (form_width a) (omega (arith, eqb-true (form_width a) 4 p.0))) (and_parts (second a b) _ p.1).0
front_start (a ∷ b ∷ c ∷ d ∷ []) e (suc (suc (suc zero))) h =
    let p = and_parts (eqb (form_width a) 4) _ e in
    let q = and_parts (second a b) _ p.1 in
    and_from (ltb 3 (form_width a)) (second a b && tail c) (lt-ltb 3 (form_width a) (omega (arith, eqb-true (form_width a) 4 p.0))) (and_from (second a b) (tail c) q.0 (and_parts (tail c) (tail d) q.1).0)
front_start (a ∷ b ∷ c ∷ d ∷ []) e (suc (suc (suc (suc k)))) h = absurd (omega arith)
front_start (a ∷ b ∷ c ∷ d ∷ f ∷ xs) e (suc k) h = absurd (true≢false (sym e))

pub start_is : (bs : List ℕ) → Start bs → is_start bs ≡ true
start_is bs s = ap is_start (sym s.begins) ∙ front_start (utf8 s.char) (forms s.char s.is_scalar).well (length bs) s.short

-- the first k bytes of a form are a start
start_of : (xs : List ℕ) (k : ℕ) → well_formed xs ≡ true → k < length xs → Start (take k xs)
start_of xs k e h =
    let s = stands xs e in
    let l : length (take k xs) ≡ k = simp length-take (omega arith) in
    record {
      char = code_of xs;
      is_scalar = s.scalar_value;
      short = rw s.form (omega arith);
      begins = (λ i. take (l i) (s.form i));
    }

-- a byte that may be the second one
least_second : ℕ → ℕ
least_second a = cond (eqb a 0xe0) 0xa0 (cond (eqb a 0xf0) 0x90 0x80)

second_least : (a : ℕ) → second a (least_second a) ≡ true
unfolding least_second
second_least a = grind (arith, nat_tests)

width_cases : (a : ℕ) → 1 < form_width a → (form_width a ≡ 2) ⊎ ((form_width a ≡ 3) ⊎ (form_width a ≡ 4))
width_cases a h = let m = form_width_most a in grind arith

-- each start can be made a form
two_form : (a b : ℕ) → form_width a ≡ 2 → second a b ≡ true → well_formed (a ∷ b ∷ []) ≡ true
two_form a b w e = and_from (eqb (form_width a) 2) (second a b) (eq-eqb (form_width a) 2 w) e

three_form : (a b c : ℕ) → form_width a ≡ 3 → second a b ≡ true → tail c ≡ true → well_formed (a ∷ b ∷ c ∷ []) ≡ true
three_form a b c w e f = and_from (eqb (form_width a) 3) (second a b && tail c) (eq-eqb (form_width a) 3 w) (and_from (second a b) (tail c) e f)

four_form : (a b c d : ℕ) → form_width a ≡ 4 → second a b ≡ true → tail c ≡ true → tail d ≡ true → well_formed (a ∷ b ∷ c ∷ d ∷ []) ≡ true
four_form a b c d w e f g = and_from (eqb (form_width a) 4) (second a b && (tail c && tail d)) (eq-eqb (form_width a) 4 w) (and_from (second a b) (tail c && tail d) e (and_from (tail c) (tail d) f g))

pub start_from : (bs : List ℕ) → is_start bs ≡ true → Start bs
start_from [] e = start_of (0 ∷ []) 0 refl (omega arith)
start_from (a ∷ []) e =
    let b = least_second a in
    let s = second_least a in
    ⊎_elim (λ w. start_of (a ∷ b ∷ []) 1 (two_form a b w s) (omega arith))
    (⊎_elim (λ w. start_of (a ∷ b ∷ 0x80 ∷ []) 1 (three_form a b 0x80 w s refl) (omega arith)) (λ w. start_of (a ∷ b ∷ 0x80 ∷ 0x80 ∷ []) 1 (four_form a b 0x80 0x80 w s refl refl) (omega arith)))
    (width_cases a (ltb-true 1 (form_width a) e))
start_from (a ∷ b ∷ []) e =
    let p = and_parts (ltb 2 (form_width a)) (second a b) e in
    let h = ltb-true 2 (form_width a) p.0 in
    ⊎_elim (λ w. absurd (omega arith))
    (⊎_elim (λ w. start_of (a ∷ b ∷ 0x80 ∷ []) 2 (three_form a b 0x80 w p.1 refl) (omega arith)) (λ w. start_of (a ∷ b ∷ 0x80 ∷ 0x80 ∷ []) 2 (four_form a b 0x80 0x80 w p.1 refl refl) (omega arith)))
    (width_cases a (omega arith))
start_from (a ∷ b ∷ c ∷ []) e =
    let p = and_parts (ltb 3 (form_width a)) (second a b && tail c) e in
    let q = and_parts (second a b) (tail c) p.1 in
    let w : form_width a ≡ 4 = omega (arith, form_width_most a, ltb-true 3 (form_width a) p.0) in
    start_of (a ∷ b ∷ c ∷ 0x80 ∷ []) 3 (four_form a b c 0x80 w q.0 q.1 refl) (omega arith)
start_from (a ∷ b ∷ c ∷ d ∷ bs) e = absurd (true≢false (sym e))

-- a start has at most three bytes
start_short : (bs : List ℕ) → is_start bs ≡ true → length bs ≤ 3
start_short [] e = omega arith
start_short (a ∷ []) e = omega arith
start_short (a ∷ b ∷ []) e = omega arith
start_short (a ∷ b ∷ c ∷ []) e = omega arith
start_short (a ∷ b ∷ c ∷ d ∷ bs) e = absurd (true≢false (sym e))

take_length_take : (n : ℕ) (xs : List ℕ) → take (length (take n xs)) xs ≡ take n xs
take_length_take zero xs = refl
take_length_take (suc n) [] = refl
take_length_take (suc n) (x ∷ xs) = ap (λ ys. x ∷ ys) (take_length_take n xs)

-- m is the length of the longest start among the beginnings of at most n bytes
record Best (xs : List ℕ) (n m : ℕ) : Type 0 where
  within : m ≤ length xs
  holds : is_start (take m xs) ≡ true
  most : (k : ℕ) → k ≤ n → k ≤ length xs → is_start (take k xs) ≡ true → k ≤ m

best : (n : ℕ) (xs : List ℕ) → Best xs n (longest_start n xs)
best zero xs = record { within = omega arith; holds = refl; most = λ k h l s. h }
best (suc n) xs =
    let t = take (suc n) xs in
    let b = best n xs in
    let l = length-take (suc n) xs in
    cond_both (is_start t) (length t) (longest_start n xs) (Best xs (suc n))
    (λ e. record { within = omega arith; holds = ap is_start (take_length_take (suc n) xs) ∙ e; most = λ k h g s. omega arith })
    (λ e. record { within = b.within; holds = b.holds; most = λ k h g s. ⊎_elim (λ q. absurd (both_ways (is_start (take k xs)) (ap (λ j. is_start (take j xs)) q ∙ e) s)) (λ q. b.most k (omega arith) g s) (cases_eq k (suc n)) })

pub longest_start_is : (xs : List ℕ) → Longest Start xs (start_length xs)
longest_start_is xs =
    let b = best 3 xs in
    record {
      within = b.within;
      holds = start_from (take (start_length xs) xs) b.holds;
      most = λ k h s. let e = start_is (take k xs) s in let j = start_short (take k xs) e in b.most k (omega (arith, length-take k xs)) h e;
    }
