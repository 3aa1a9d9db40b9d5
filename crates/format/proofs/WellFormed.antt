-- The table of well-formed bytes is the forms of the scalar values, and no others.
use Rattle.std.proofs.Common.{◌≡◌, ℕ, ◌+◌, ◌-◌, ◌*◌, ◌/◌, ◌<◌, ◌≤◌, Bool, true, false, ◌&&◌, T, eqb, ltb, leb, ◌⊎◌, List, [], ◌∷◌, length, get_or, sym, refl, ◌∙◌, subst, inl, inr, ⊎_elim, arith}
use Rattle.format.specs.Scalars.{scalar}
use Rattle.format.specs.Utf8.{utf8, continuation}
use Rattle.format.specs.WellFormed.{tail, second, form_width, well_formed, code_of}
use Rattle.std.proofs.lemmas.Bool.{true≢false, ltb-true, ltb-false, lt-ltb, le-ltb, leb-true, le-leb, eqb-true, eq-eqb, and_parts, and_from, or_left, or_right, or_cases, cond-true, cond-false, cond_both}
use Rattle.std.proofs.lemmas.Bool.Decides.{nat_tests}

-- ---- the tests as facts

pub record Between (lo hi b : ℕ) : Type 0 where
  pub low : lo ≤ b
  pub high : b ≤ hi

tail_from : (b : ℕ) → tail b ≡ true → Between 0x80 0xbf b
tail_from b e = let k = and_parts (leb 0x80 b) (leb b 0xbf) e in record { low = leb-true 0x80 b k.0; high = leb-true b 0xbf k.1 }

tail_is : (b : ℕ) → Between 0x80 0xbf b → tail b ≡ true
tail_is b k = and_from (leb 0x80 b) (leb b 0xbf) (le-leb 0x80 b k.low) (le-leb b 0xbf k.high)

one_from : (a : ℕ) → form_width a ≡ 1 → a ≤ 0x7f
one_from a e = grind (arith, nat_tests)

two_from : (a : ℕ) → form_width a ≡ 2 → Between 0xc2 0xdf a
two_from a e = record { low = grind (arith, nat_tests); high = grind (arith, nat_tests) }

three_from : (a : ℕ) → form_width a ≡ 3 → Between 0xe0 0xef a
three_from a e = record { low = grind (arith, nat_tests); high = grind (arith, nat_tests) }

four_from : (a : ℕ) → form_width a ≡ 4 → Between 0xf0 0xf4 a
four_from a e = record { low = grind (arith, nat_tests); high = grind (arith, nat_tests) }

pub form_width_most : (a : ℕ) → form_width a ≤ 4
form_width_most a = grind (arith, nat_tests)

is_two : (a : ℕ) → Between 0xc2 0xdf a → form_width a ≡ 2
is_two a k = grind (arith, nat_tests)

is_three : (a : ℕ) → Between 0xe0 0xef a → form_width a ≡ 3
is_three a k = grind (arith, nat_tests)

is_four : (a : ℕ) → Between 0xf0 0xf4 a → form_width a ≡ 4
is_four a k = grind (arith, nat_tests)

-- the first two bytes of three, and of four, with the ten or eleven highest bits of the number
pub record Three (a b : ℕ) : Type 0 where
  pub first : Between 0xe0 0xef a
  pub next : Between 0x80 0xbf b
  pub long : 0x20 ≤ (a - 0xe0) * 64 + (b - 0x80)
  pub range : ((a - 0xe0) * 64 + (b - 0x80) < 0x360) ⊎ (0x380 ≤ (a - 0xe0) * 64 + (b - 0x80))

pub record Four (a b : ℕ) : Type 0 where
  pub first : Between 0xf0 0xf4 a
  pub next : Between 0x80 0xbf b
  pub long : 0x10 ≤ (a - 0xf0) * 64 + (b - 0x80)
  pub range : (a - 0xf0) * 64 + (b - 0x80) < 0x110

second_tail : (a b : ℕ) → second a b ≡ true → Between 0x80 0xbf b
second_tail a b e = record { low = grind (arith, nat_tests); high = grind (arith, nat_tests) }

second_three : (a b : ℕ) → Between 0xe0 0xef a → second a b ≡ true → Three a b
second_three a b k e = record { first = k; next = second_tail a b e; long = grind (arith, nat_tests); range = grind (arith, nat_tests) }

second_four : (a b : ℕ) → Between 0xf0 0xf4 a → second a b ≡ true → Four a b
second_four a b k e = record { first = k; next = second_tail a b e; long = grind (arith, nat_tests); range = grind (arith, nat_tests) }

two_second : (a b : ℕ) → Between 0xc2 0xdf a → Between 0x80 0xbf b → second a b ≡ true
two_second a b x y = grind (arith, nat_tests)

three_second : (a b : ℕ) → Three a b → second a b ≡ true
three_second a b k = grind (arith, nat_tests)

four_second : (a b : ℕ) → Four a b → second a b ≡ true
four_second a b k = grind (arith, nat_tests)

scalar_low : (c : ℕ) → c < 0xd800 → scalar c ≡ true
scalar_low c h = or_left (ltb c 0xd800) _ (lt-ltb c 0xd800 h)

scalar_high : (c : ℕ) → 0xe000 ≤ c → c < 0x11_0000 → scalar c ≡ true
scalar_high c h g = or_right (ltb c 0xd800) _ (and_from (leb 0xe000 c) (ltb c 0x11_0000) (le-leb 0xe000 c h) (lt-ltb c 0x11_0000 g))

-- ---- the form of a number, by its size

utf8_one : (c : ℕ) → c < 0x80 → utf8 c ≡ c ∷ []
utf8_one c h = cond-true (ltb c 0x80) _ _ (lt-ltb c 0x80 h)

utf8_two : (c : ℕ) → 0x80 ≤ c → c < 0x800 → utf8 c ≡ (0xc0 + c / 64) ∷ continuation c ∷ []
utf8_two c h g = cond-false (ltb c 0x80) _ _ (le-ltb c 0x80 h) ∙ cond-true (ltb c 0x800) _ _ (lt-ltb c 0x800 g)

utf8_three : (c : ℕ) → 0x800 ≤ c → c < 0x1_0000 → utf8 c ≡ (0xe0 + c / 4096) ∷ continuation (c / 64) ∷ continuation c ∷ []
utf8_three c h g = cond-false (ltb c 0x80) _ _ (le-ltb c 0x80 (omega arith)) ∙ cond-false (ltb c 0x800) _ _ (le-ltb c 0x800 h) ∙ cond-true (ltb c 0x1_0000) _ _ (lt-ltb c 0x1_0000 g)

utf8_four : (c : ℕ) → 0x1_0000 ≤ c → utf8 c ≡ (0xf0 + c / 262144) ∷ continuation (c / 4096) ∷ continuation (c / 64) ∷ continuation c ∷ []
utf8_four c h = cond-false (ltb c 0x80) _ _ (le-ltb c 0x80 (omega arith)) ∙ cond-false (ltb c 0x800) _ _ (le-ltb c 0x800 (omega arith)) ∙ cond-false (ltb c 0x1_0000) _ _ (le-ltb c 0x1_0000 h)

-- ---- well-formed bytes are the form of their number, which is a scalar value

pub record Stands (bs : List ℕ) : Type 0 where
  pub scalar_value : scalar (code_of bs) ≡ true
  pub form : utf8 (code_of bs) ≡ bs
  pub wide : form_width (get_or bs 0 0) ≡ length bs

stands_one : (a : ℕ) → a ≤ 0x7f → Stands (a ∷ [])
stands_one a h = record { scalar_value = scalar_low a (omega arith); form = utf8_one a (omega arith); wide = cond-true (leb a 0x7f) _ _ (le-leb a 0x7f h) }

stands_two : (a b : ℕ) → form_width a ≡ 2 → second a b ≡ true → Stands (a ∷ b ∷ [])
stands_two a b w e =
    let k = two_from a w in
    let t = second_tail a b e in
    let c = (a - 0xc0) * 64 + (b - 0x80) in
    let p : 0xc0 + c / 64 ≡ a = omega arith in
    let q : continuation c ≡ b = omega arith in
    record { scalar_value = scalar_low c (omega arith); form = utf8_two c (omega arith) (omega arith) ∙ (λ i. p i ∷ q i ∷ []); wide = w }

stands_three : (a b d : ℕ) → form_width a ≡ 3 → second a b ≡ true → tail d ≡ true → Stands (a ∷ b ∷ d ∷ [])
stands_three a b d w e f =
    let k = second_three a b (three_from a w) e in
    let x = k.first in
    let y = k.next in
    let z = tail_from d f in
    let c = (a - 0xe0) * 4096 + (b - 0x80) * 64 + (d - 0x80) in
    let p : 0xe0 + c / 4096 ≡ a = omega arith in
    let q : continuation (c / 64) ≡ b = omega arith in
    let r : continuation c ≡ d = omega arith in
    record {
      scalar_value = ⊎_elim (λ l. scalar_low c (omega arith)) (λ l. scalar_high c (omega arith) (omega arith)) k.range;
      form = utf8_three c (omega (arith, k.long)) (omega arith) ∙ (λ i. p i ∷ q i ∷ r i ∷ []);
      wide = w;
    }

stands_four : (a b d e : ℕ) → form_width a ≡ 4 → second a b ≡ true → tail d ≡ true → tail e ≡ true → Stands (a ∷ b ∷ d ∷ e ∷ [])
stands_four a b d e w f g h =
    let k = second_four a b (four_from a w) f in
    let x = k.first in
    let y = k.next in
    let l = k.long in
    let u = k.range in
    let z = tail_from d g in
    let v = tail_from e h in
    let c = (a - 0xf0) * 262144 + (b - 0x80) * 4096 + (d - 0x80) * 64 + (e - 0x80) in
    let p : 0xf0 + c / 262144 ≡ a = omega arith in
    let q : continuation (c / 4096) ≡ b = omega arith in
    let m : c / 64 ≡ (a - 0xf0) * 4096 + (b - 0x80) * 64 + (d - 0x80) = omega arith in
    let r : continuation (c / 64) ≡ d = rw m (omega arith) in
    let t : continuation c ≡ e = omega arith in
    record { scalar_value = scalar_high c (omega arith) (omega arith); form = utf8_four c (omega arith) ∙ (λ i. p i ∷ q i ∷ r i ∷ t i ∷ []); wide = w }

pub stands : (bs : List ℕ) → well_formed bs ≡ true → Stands bs
stands [] e = absurd (true≢false (sym e))
stands (a ∷ []) e = stands_one a (one_from a (eqb-true (form_width a) 1 e))
stands (a ∷ b ∷ []) e = let k = and_parts (eqb (form_width a) 2) (second a b) e in stands_two a b (eqb-true (form_width a) 2 k.0) k.1
stands (a ∷ b ∷ c ∷ []) e =
    let k = and_parts (eqb (form_width a) 3) _ e in
    let l = and_parts (second a b) (tail c) k.1 in
    stands_three a b c (eqb-true (form_width a) 3 k.0) l.0 l.1
stands (a ∷ b ∷ c ∷ d ∷ []) e =
    let k = and_parts (eqb (form_width a) 4) _ e in
    let l = and_parts (second a b) _ k.1 in
    let m = and_parts (tail c) (tail d) l.1 in
    stands_four a b c d (eqb-true (form_width a) 4 k.0) l.0 m.0 m.1
stands (a ∷ b ∷ c ∷ d ∷ e ∷ bs) f = absurd (true≢false (sym f))

-- ---- the form of a scalar value is well formed, and stands for it

pub record Forms (c : ℕ) (bs : List ℕ) : Type 0 where
  pub well : well_formed bs ≡ true
  pub code : code_of bs ≡ c

pub scalar_range : (c : ℕ) → scalar c ≡ true → (c < 0xd800) ⊎ ((0xe000 ≤ c) × (c < 0x11_0000))
scalar_range c e =
    ⊎_elim (λ h. inl (ltb-true c 0xd800 h)) (λ h. let k = and_parts (leb 0xe000 c) (ltb c 0x11_0000) h in inr (leb-true 0xe000 c k.0, ltb-true c 0x11_0000 k.1))
    (or_cases (ltb c 0xd800) (leb 0xe000 c && ltb c 0x11_0000) e)

forms_one : (c : ℕ) → c < 0x80 → Forms c (c ∷ [])
forms_one c h = record { well = eq-eqb (form_width c) 1 (cond-true (leb c 0x7f) _ _ (le-leb c 0x7f (omega arith))); code = refl }

forms_two : (c : ℕ) → 0x80 ≤ c → c < 0x800 → Forms c ((0xc0 + c / 64) ∷ continuation c ∷ [])
forms_two c h g =
    let a = 0xc0 + c / 64 in
    let b = continuation c in
    let x : Between 0xc2 0xdf a = record { low = omega arith; high = omega arith } in
    let y : Between 0x80 0xbf b = record { low = omega arith; high = omega arith } in
    record { well = and_from (eqb (form_width a) 2) (second a b) (eq-eqb (form_width a) 2 (is_two a x)) (two_second a b x y); code = omega arith }

forms_three : (c : ℕ) → 0x800 ≤ c → c < 0x1_0000 → (c < 0xd800) ⊎ (0xe000 ≤ c) → Forms c ((0xe0 + c / 4096) ∷ continuation (c / 64) ∷ continuation c ∷ [])
forms_three c h g range =
    let a = 0xe0 + c / 4096 in
    let b = continuation (c / 64) in
    let d = continuation c in
    let x : Between 0xe0 0xef a = record { low = omega arith; high = omega arith } in
    let y : Between 0x80 0xbf b = record { low = omega arith; high = omega arith } in
    let z : Between 0x80 0xbf d = record { low = omega arith; high = omega arith } in
    let k : Three a b = record { first = x; next = y; long = omega arith; range = ⊎_elim (λ l. inl (omega arith)) (λ l. inr (omega arith)) range } in
    record {
      well = and_from (eqb (form_width a) 3) _ (eq-eqb (form_width a) 3 (is_three a x)) (and_from (second a b) (tail d) (three_second a b k) (tail_is d z));
      code = omega arith;
    }

forms_four : (c : ℕ) → 0x1_0000 ≤ c → c < 0x11_0000 → Forms c ((0xf0 + c / 262144) ∷ continuation (c / 4096) ∷ continuation (c / 64) ∷ continuation c ∷ [])
forms_four c h g =
    let a = 0xf0 + c / 262144 in
    let b = continuation (c / 4096) in
    let d = continuation (c / 64) in
    let e = continuation c in
    let x : Between 0xf0 0xf4 a = record { low = omega arith; high = omega arith } in
    let y : Between 0x80 0xbf b = record { low = omega arith; high = omega arith } in
    let z : Between 0x80 0xbf d = record { low = omega arith; high = omega arith } in
    let v : Between 0x80 0xbf e = record { low = omega arith; high = omega arith } in
    let k : Four a b = record { first = x; next = y; long = omega arith; range = omega arith } in
    record {
      well = and_from (eqb (form_width a) 4) _ (eq-eqb (form_width a) 4 (is_four a x)) (and_from (second a b) _ (four_second a b k) (and_from (tail d) (tail e) (tail_is d z) (tail_is e v)));
      code = let p : c / 64 / 64 ≡ c / 4096 = omega arith in let q : c / 4096 / 64 ≡ c / 262144 = omega arith in omega arith;
    }

pub forms : (c : ℕ) → scalar c ≡ true → Forms c (utf8 c)
forms c e =
    let below : c < 0x11_0000 = ⊎_elim (λ h. omega arith) (λ h. h.1) (scalar_range c e) in
    let apart : (c < 0xd800) ⊎ (0xe000 ≤ c) = ⊎_elim (λ h. inl h) (λ h. inr h.0) (scalar_range c e) in
    cond_both (ltb c 0x80) (c ∷ []) _ (Forms c) (λ a. forms_one c (ltb-true c 0x80 a))
    (λ a. cond_both (ltb c 0x800) ((0xc0 + c / 64) ∷ continuation c ∷ []) _ (Forms c) (λ b. forms_two c (ltb-false c 0x80 a) (ltb-true c 0x800 b))
    (λ b. cond_both (ltb c 0x1_0000) ((0xe0 + c / 4096) ∷ continuation (c / 64) ∷ continuation c ∷ []) _ (Forms c) (λ d. forms_three c (ltb-false c 0x800 b) (ltb-true c 0x1_0000 d) apart)
    (λ d. forms_four c (ltb-false c 0x1_0000 d) below)))

-- ---- the same with tests as types

pub true_from : (b : Bool) → T b → b ≡ true
true_from true h = refl
true_from false h = absurd h

pub test_from : (b : Bool) → b ≡ true → T b
test_from b e = subst T (sym e) tt

-- what well-formed bytes stand for is a scalar value
pub well_formed_scalar : (bs : List ℕ) → T (well_formed bs) → T (scalar (code_of bs))
well_formed_scalar bs h = test_from (scalar (code_of bs)) (stands bs (true_from (well_formed bs) h)).scalar_value
