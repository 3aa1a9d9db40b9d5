-- The laws of the integers' readings, for every type and so for every width.
use Rattle.std.proofs.Common.{◌≡◌, ℕ, ◌+◌, ◌-◌, ◌*◌, ◌^◌, ◌<◌, ◌≤◌, Bool, true, false, cond, eqb, ltb, leb, ◌⊎◌, List, [], ◌∷◌, ◌++◌, length, get_or, take, sym, refl, ap, ◌∙◌, subst, inl, inr, arith, ltb-false, ltb-true, le-ltb, lt-ltb, eqb-true, le-leb}
use borrow.Author.Tests.{lt-leb}
use Rattle.format.specs.Integers.{unsigned_writing}
use Rattle.format.specs.Numbers.{number}
use Rattle.format.specs.Pieces.{joined}
use Rattle.format.specs.Refusals.{given, refused, refusal}
use Rattle.format.specs.Standing.{Tagged, two, four, eight, UnsignedStands, fixed, single, tagged}
use Rattle.format.specs.declared.config.Endianness.{Endianness}
use Rattle.format.specs.declared.config.IntEncoding.{IntEncoding}
use Rattle.format.specs.declared.config.IntEncoding.TheVariants.{Fixed, Variable}
use Rattle.format.specs.declared.error.IntegerType.{IntegerType}
use Rattle.format.specs.declared.error.IntegerType.TheVariants.{U16, U32, U64, U128, Usize, I16, I32, I64, I128, Reserved}
use Rattle.readings.proofs.Accepts.{implied_accepts, giving_accepts, refusing_accepts, taking_accepts, either_accepts, looking_accepts, peeking_accepts, then_accepts, claimed_accepts, made_accepts}
use Rattle.readings.proofs.Charges.{Within, taking_within, giving_within, then_within}
use Rattle.readings.proofs.Sights.{Agree, Blind, blind_word, then_blind}
use Rattle.readings.proofs.Standing.{width_of, two_fit, eight_most, unsigned_writes}
use Rattle.readings.proofs.Words.{giving_returns, taking_returns, then_returns, claimed_returns, made_returns, weaker, giving_lawful, refusing_lawful, claiming_lawful, taking_lawful, looking_lawful, peeking_lawful, then_lawful}
use Rattle.readings.specs.Accepts.{Accepts}
use Rattle.readings.specs.Integers.{type_width, peek_name, found, following, is_wide, number_reading, after_tag, tag_first, peeked_first, variable_reading, integer_reading}
use Rattle.readings.specs.Claims.{after}
use Rattle.readings.specs.Laws.{Returns, Marks, Marked, Lawful, too_wide}
use Rattle.readings.specs.Readings.{Source, Outcome, outcome, Reading, giving, refusing, claiming, taking, in_view, moved, resumed}
use Rattle.std.proofs.lemmas.Bool.{cond-true, cond-false, cond_both}

marks_of : (t : IntegerType) → Marks (peek_name t) t
marks_of U16 = Marks.equal
marks_of I16 = Marks.equal
marks_of U32 = Marks.equal
marks_of I32 = Marks.equal
marks_of U64 = Marks.unsigned
marks_of I64 = Marks.signed
marks_of Usize = Marks.equal
marks_of U128 = Marks.equal
marks_of I128 = Marks.equal
marks_of Reserved = Marks.equal

-- each type has two bytes at least
pub width_two : (t : IntegerType) → 2 ≤ type_width t
width_two t = two_fit (width_of t)

-- a number in k bytes
pub number_lawful : (o : Endianness) (k : ℕ) → Lawful 2 (0 + 2 * k) 0 (number_reading o k)
number_lawful o k = then_lawful 2 (0 + 2 * k) 0 0 (taking k) (λ bs. giving (number o bs)) (taking_lawful 2 0 k) (λ bs. giving_lawful 2 0 (number o bs))

module _ (t : IntegerType) (o : Endianness) where
  -- a number in no more bytes than the type has
  long_lawful : (k : ℕ) → k ≤ type_width t → Lawful 2 (2 * type_width t) 0 (number_reading o k)
  long_lawful k h = weaker (number_reading o k) 2 (0 + 2 * k) 0 2 (2 * type_width t) 0 (omega arith) (omega arith) (omega arith) (number_lawful o k)

  after_lawful : (tag : ℕ) → Lawful 2 (2 * type_width t) 0 (after_tag t o tag)
  after_lawful tag =
      cond_both {A = Reading ℕ} (is_wide t tag) (refusing (too_wide t (found t tag))) (cond (ltb tag 251) (giving tag) (number_reading o (following tag))) (Lawful 2 (2 * type_width t) 0)
      (λ _. refusing_lawful 2 (2 * type_width t) 0 (too_wide t (found t tag)))
      (λ narrow. cond_both {A = Reading ℕ} (ltb tag 251) (giving tag) (number_reading o (following tag)) (Lawful 2 (2 * type_width t) 0)
      (λ _. weaker (giving tag) 2 0 0 2 (2 * type_width t) 0 (omega arith) (omega arith) (omega arith) (giving_lawful 2 0 tag))
      (λ _. long_lawful (following tag) (ltb-false (type_width t) (following tag) narrow)))

  tag_first_lawful : Lawful 2 (2 * type_width t + 2 * 1) 0 (tag_first t o)
  tag_first_lawful = then_lawful 2 (2 * type_width t + 2 * 1) (2 * type_width t) 0 (taking 1) (λ bs. after_tag t o (get_or bs 0 0)) (taking_lawful 2 (2 * type_width t) 1) (λ bs. after_lawful (get_or bs 0 0))

  abbrev peeked_by : ℕ → Reading ℕ
  peeked_by tag = cond (is_wide t tag) (refusing (too_wide (peek_name t) (found t tag))) (tag_first t o)

  peeked_first_lawful : Lawful 2 (2 * type_width t + 2 * 1) 0 (peeked_first t o)
  peeked_first_lawful =
      looking_lawful 2 (2 * type_width t + 2 * 1) 0 peeked_by
      (λ tag. cond_both {A = Reading ℕ} (is_wide t tag) (refusing (too_wide (peek_name t) (found t tag))) (tag_first t o) (Lawful 2 (2 * type_width t + 2 * 1) 0)
      (λ _. refusing_lawful 2 (2 * type_width t + 2 * 1) 0 (too_wide (peek_name t) (found t tag)))
      (λ _. tag_first_lawful))

  -- neither way looks at the view
  taking_blind : (n : ℕ) → Blind (taking n)
  taking_blind n = blind_word (λ w l c. cond (leb n (length w)) (outcome (given (take n w)) n c) (outcome (refused (refusal 2 ((n - length w) ∷ []))) 0 c))

  after_blind : (tag : ℕ) → Blind (after_tag t o tag)
  after_blind tag = by (is_wide t tag) (ltb tag 251)
    where
      by : (a b : Bool) → Blind (cond a (refusing {A = ℕ} (too_wide t (found t tag))) (cond b (giving tag) (number_reading o (following tag))))
      by true b = blind_word {A = ℕ} (λ w l c. outcome (refused (too_wide t (found t tag))) 0 c)
      by false true = blind_word (λ w l c. outcome (given tag) 0 c)
      by false false = then_blind (taking (following tag)) (λ bs. giving (number o bs)) (taking_blind (following tag)) (λ bs. blind_word (λ w l c. outcome (given (number o bs)) 0 c))

  tag_first_blind : Blind (tag_first t o)
  tag_first_blind = then_blind (taking 1) (λ bs. after_tag t o (get_or bs 0 0)) (taking_blind 1) (λ bs. after_blind (get_or bs 0 0))

  -- what the tag's own read does where a byte waits
  tag_first_at : (s : Source) → 1 ≤ length s.waiting → tag_first t o s ≡ resumed (λ bs. after_tag t o (get_or bs 0 0)) s (given (take 1 s.waiting)) 1 s.count
  tag_first_at s h = ap (λ (x : Outcome (List ℕ)). resumed (λ bs. after_tag t o (get_or bs 0 0)) s x.answer x.used x.counted) (cond-true (leb 1 (length s.waiting)) _ _ (le-leb 1 (length s.waiting) h))

  first_of : (w : List ℕ) → get_or (take 1 w) 0 0 ≡ get_or w 0 0
  first_of [] = refl
  first_of (x ∷ w) = refl

  -- a tag that is too wide, read without a peek
  wide_at : (s : Source) → 1 ≤ length s.waiting → is_wide t (get_or s.waiting 0 0) ≡ true → tag_first t o s ≡ outcome (refused (too_wide t (found t (get_or s.waiting 0 0)))) 1 s.count
  wide_at s h wide =
      let tag = get_or s.waiting 0 0 in
      let r : after_tag t o (get_or (take 1 s.waiting) 0 0) ≡ refusing (too_wide t (found t tag)) = ap (after_tag t o) (first_of s.waiting) ∙ cond-true (is_wide t tag) _ _ wide in
      tag_first_at s h ∙ ap (λ (f : Reading ℕ). outcome (f (moved 1 s.count s)).answer (1 + (f (moved 1 s.count s)).used) (f (moved 1 s.count s)).counted) r

  variable_agrees : Agree (type_width t + 1) (peeked_first t o) (tag_first t o)
  variable_agrees s u same seen unseen = by (is_wide t (get_or s.waiting 0 0)) refl
    where
      tag : ℕ
      tag = get_or s.waiting 0 0

      long_s : 1 ≤ length s.waiting
      long_s = let w = width_two t in omega arith

      by : (b : Bool) → is_wide t (get_or s.waiting 0 0) ≡ b → (peeked_first t o s ≡ tag_first t o u) ⊎ Marked s u (peeked_first t o s) (tag_first t o u)
      by false e = inl (ap (λ (f : Reading ℕ). f s) (cond-false (is_wide t (get_or s.waiting 0 0)) _ _ e) ∙ tag_first_blind s u same)
      by true e =
          let x = get_or s.waiting 0 0 in
          let near : peeked_first t o s ≡ outcome (refused (too_wide (peek_name t) (found t x))) 0 s.count = ap (λ (f : Reading ℕ). f s) (cond-true (is_wide t x) _ _ e) in
          let far : tag_first t o u ≡ outcome (refused (too_wide t (found t x))) 1 s.count = sym (tag_first_blind s u same) ∙ wide_at s long_s e in
          inr (record {
            near = peek_name t;
            far = t;
            found = found t x;
            peeked = ap (λ (y : Outcome ℕ). y.answer) near;
            unpeeked = ap (λ (y : Outcome ℕ). y.answer) far;
            marks = marks_of t;
            tag = ap (λ (y : Outcome ℕ). y.used) far ∙ sym (ap (λ (y : Outcome ℕ). y.used + 1) near);
            count = ap (λ (y : Outcome ℕ). y.counted) near ∙ sym (ap (λ (y : Outcome ℕ). y.counted) far);
            at = 0;
            wanted = type_width t + 1;
            seen = seen;
            unseen = unseen;
          })

  variable_lawful : Lawful 2 (2 * type_width t + 2 * 1) 0 (variable_reading t o)
  variable_lawful = peeking_lawful 2 (2 * type_width t + 2 * 1) 0 (type_width t + 1) (peeked_first t o) (tag_first t o) peeked_first_lawful tag_first_lawful variable_agrees

  pub integer_lawful : (i : IntEncoding) → Lawful 2 0 0 (integer_reading t o i)
  integer_lawful Fixed =
      then_lawful 2 0 (0 + 3 * type_width t) 0 (claiming (type_width t)) (λ _. number_reading o (type_width t)) (claiming_lawful 2 0 (type_width t))
      (λ _. weaker (number_reading o (type_width t)) 2 (2 * type_width t) 0 2 (0 + 3 * type_width t) 0 (omega arith) (omega arith) (omega arith) (long_lawful (type_width t) (omega arith)))
  integer_lawful Variable =
      then_lawful 2 0 (0 + 3 * type_width t) 0 (claiming (type_width t)) (λ _. variable_reading t o) (claiming_lawful 2 0 (type_width t))
      (λ _. weaker (variable_reading t o) 2 (2 * type_width t + 2 * 1) 0 2 (0 + 3 * type_width t) 0 (omega arith) (let w = width_two t in omega arith) (omega arith) variable_lawful)

-- ---- what stands for a number is returned

-- a number in k bytes
pub number_returns : (o : Endianness) (k : ℕ) (bs : List ℕ) (n : ℕ) → length bs ≡ k → number o bs ≡ n → Returns (number_reading o k) bs 0 n
number_returns o k bs n e f = subst (λ v. Returns (number_reading o k) bs 0 v) f (made_returns (taking k) (number o) bs bs 0 (taking_returns k bs e))

-- as many bytes follow each tag as it says
tagged_follows : {tag k : ℕ} → Tagged tag k → (ltb tag 251 ≡ false) × (following tag ≡ k)
tagged_follows two = (refl, refl)
tagged_follows four = (refl, refl)
tagged_follows eight = (refl, refl)

module _ (t : IntegerType) (o : Endianness) where
  -- after a number below 251, and after a tag
  short_returns : (n : ℕ) → n < 251 → (is_wide t n ≡ false) × Returns (after_tag t o n) [] 0 n
  short_returns n h =
      let none : following n ≡ 0 = cond-true (ltb n 251) _ _ (lt-ltb n 251 h) in
      let narrow : is_wide t n ≡ false = ap (ltb (type_width t)) none ∙ le-ltb (type_width t) 0 (omega arith) in
      let is : after_tag t o n ≡ giving n = cond-false (is_wide t n) _ _ narrow ∙ cond-true (ltb n 251) _ _ (lt-ltb n 251 h) in
      (narrow, subst (λ (f : Reading ℕ). Returns f [] 0 n) (sym is) (giving_returns n))

  long_returns : (tag k : ℕ) (bs : List ℕ) (n : ℕ) → Tagged tag k → k ≤ type_width t → length bs ≡ k → number o bs ≡ n → (is_wide t tag ≡ false) × Returns (after_tag t o tag) bs 0 n
  long_returns tag k bs n r fits e f =
      let follows = tagged_follows r in
      let narrow : is_wide t tag ≡ false = ap (ltb (type_width t)) follows.1 ∙ le-ltb (type_width t) k fits in
      let is : after_tag t o tag ≡ number_reading o k = cond-false (is_wide t tag) _ _ narrow ∙ cond-false (ltb tag 251) _ _ follows.0 ∙ ap (number_reading o) follows.1 in
      (narrow, subst (λ (g : Reading ℕ). Returns g bs 0 n) (sym is) (number_returns o k bs n e f))

  -- with and without a peek
  variable_from : (tag n : ℕ) (y : List ℕ) → (is_wide t tag ≡ false) × Returns (after_tag t o tag) y 0 n → Returns (variable_reading t o) (tag ∷ y) 0 n
  variable_from tag n y k s rest there granted =
      let far : tag_first t o s ≡ outcome (given n) (length (tag ∷ y)) (after s.limit s.count 0) = then_returns (taking 1) (λ bs. after_tag t o (get_or bs 0 0)) (tag ∷ []) n (tag ∷ []) y 0 0 (taking_returns 1 (tag ∷ []) refl) k.1 s rest there granted in
      let here : get_or s.waiting 0 0 ≡ tag = ap (λ w. get_or w 0 0) there in
      let near : peeked_first t o s ≡ tag_first t o s = ap (λ (f : Reading ℕ). f s) (cond-false (is_wide t (get_or s.waiting 0 0)) _ _ (ap (is_wide t) here ∙ k.0)) in
      by (leb (type_width t + 1) (in_view s)) near ∙ far
    where
      by : (b : Bool) → peeked_first t o s ≡ tag_first t o s → cond b (peeked_first t o s) (tag_first t o s) ≡ tag_first t o s
      by true e = e
      by false e = refl

  -- the bytes that stand for a number are read as it, whichever form they are
  pub unsigned_returns : (i : IntEncoding) (bs : List ℕ) (n : ℕ) → UnsignedStands (type_width t) o i bs n → Returns (integer_reading t o i) bs (type_width t) n
  unsigned_returns i bs n (fixed e f) = claimed_returns (type_width t) (number_reading o (type_width t)) n bs (number_returns o (type_width t) bs n e f)
  unsigned_returns i bs n (single h) = claimed_returns (type_width t) (variable_reading t o) n (n ∷ []) (variable_from n n [] (short_returns n h))
  unsigned_returns i bs n (tagged {tag = tag} {k = k} {bs = y} r fits e f) =
      claimed_returns (type_width t) (variable_reading t o) n (tag ∷ y) (variable_from tag n y (long_returns tag k y n r fits e f))

  -- and so is a number's writing
  pub integer_returns : (i : IntEncoding) (n : ℕ) → n < 256 ^ type_width t → Returns (integer_reading t o i) (joined (unsigned_writing (type_width t) o i n)) (type_width t) n
  integer_returns i n h = unsigned_returns i (joined (unsigned_writing (type_width t) o i n)) n (unsigned_writes t o i n h)

-- ---- what an accepted reading used stands for the number

-- a number in k bytes
pub number_accepts : (o : Endianness) (k : ℕ) → Accepts (number_reading o k) (λ bs n. (length bs ≡ k) × (number o bs ≡ n))
number_accepts o k =
    made_accepts (taking k) (number o) (λ x bs. (x ≡ bs) × (length bs ≡ k)) (λ bs n. (length bs ≡ k) × (number o bs ≡ n)) (taking_accepts k)
    (λ x bs c. (ap length c.0 ∙ c.1, ap (number o) c.0))

-- one byte
pub one_byte : (bs : List ℕ) → length bs ≡ 1 → bs ≡ get_or bs 0 0 ∷ []
one_byte [] e = absurd (omega arith)
one_byte (x ∷ []) e = refl
one_byte (x ∷ y ∷ bs) e = absurd (omega arith)

-- a byte from 251 up that no more than 8 bytes follow is a tag
tagged_from : (tag : ℕ) → 251 ≤ tag → following tag ≤ 8 → Tagged tag (following tag)
tagged_from tag above =
    let P : ℕ → Type 0 = λ k. k ≤ 8 → Tagged tag k in
    let at : (j k : ℕ) → Tagged j k → eqb tag j ≡ true → P k = λ j k r e _. subst (λ x. Tagged x k) (sym (eqb-true tag j e)) r in
    cond_both (ltb tag 251) 0 _ P (λ e. let below = ltb-true tag 251 e in absurd (omega arith))
    (λ _. cond_both (eqb tag 251) 2 _ P (at 251 2 Tagged.two)
    (λ _. cond_both (eqb tag 252) 4 _ P (at 252 4 Tagged.four)
    (λ _. cond_both (eqb tag 253) 8 16 P (at 253 8 Tagged.eight) (λ _ h. absurd (omega arith)))))

module _ (t : IntegerType) (o : Endianness) where
  -- what stands for a number under the variable encoding
  abbrev Stands : List ℕ → ℕ → Type 0
  Stands = UnsignedStands (type_width t) o Variable

  -- after the tag: a number below 251 is itself, and any other that is accepted is in as many bytes as the tag says
  after_accepts : (tag : ℕ) → Accepts (after_tag t o tag) (λ y n. Stands (tag ∷ y) n)
  after_accepts tag =
      let S : List ℕ → ℕ → Type 0 = λ y n. Stands (tag ∷ y) n in
      either_accepts S (is_wide t tag) (refusing (too_wide t (found t tag))) (cond (ltb tag 251) (giving tag) (number_reading o (following tag)))
      (λ _. refusing_accepts S (too_wide t (found t tag)))
      (λ narrow. either_accepts S (ltb tag 251) (giving tag) (number_reading o (following tag))
      (λ e. giving_accepts S tag (UnsignedStands.single (ltb-true tag 251 e)))
      (λ e. let fits = ltb-false (type_width t) (following tag) narrow in
      let most = eight_most (width_of t) in
      let r = tagged_from tag (ltb-false tag 251 e) (omega arith) in
      implied_accepts (number_reading o (following tag)) (λ bs n. (length bs ≡ following tag) × (number o bs ≡ n)) S (λ bs n c. UnsignedStands.tagged r fits c.0 c.1) (number_accepts o (following tag))))

  -- the tag, without and with a peek
  tag_first_accepts : Accepts (tag_first t o) Stands
  tag_first_accepts =
      then_accepts (taking 1) (λ bs. after_tag t o (get_or bs 0 0)) (λ x bs. (x ≡ bs) × (length bs ≡ 1)) Stands (taking_accepts 1)
      (λ bs x c. subst (λ z. Accepts (after_tag t o (get_or bs 0 0)) (λ y n. Stands (z ++ y) n)) (sym (c.0 ∙ one_byte bs c.1)) (after_accepts (get_or bs 0 0)))

  peeked_first_accepts : Accepts (peeked_first t o) Stands
  peeked_first_accepts =
      looking_accepts Stands (peeked_by t o)
      (λ tag. either_accepts Stands (is_wide t tag) (refusing (too_wide (peek_name t) (found t tag))) (tag_first t o) (λ _. refusing_accepts Stands (too_wide (peek_name t) (found t tag))) (λ _. tag_first_accepts))

  -- what was used stands for the number that was read
  pub unsigned_accepts : (i : IntEncoding) → Accepts (integer_reading t o i) (UnsignedStands (type_width t) o i)
  unsigned_accepts Fixed =
      let w = type_width t in
      claimed_accepts w (number_reading o w) (UnsignedStands w o Fixed)
      (implied_accepts (number_reading o w) (λ bs n. (length bs ≡ w) × (number o bs ≡ n)) (UnsignedStands w o Fixed) (λ bs n c. UnsignedStands.fixed c.0 c.1) (number_accepts o w))
  unsigned_accepts Variable =
      claimed_accepts (type_width t) (variable_reading t o) Stands (peeking_accepts Stands (type_width t + 1) (peeked_first t o) (tag_first t o) peeked_first_accepts tag_first_accepts)

-- what each way uses waits
pub after_within : (t : IntegerType) (o : Endianness) (tag : ℕ) → Within (after_tag t o tag)
after_within t o tag = (after_lawful t o tag).within

pub tag_first_within : (t : IntegerType) (o : Endianness) → Within (tag_first t o)
tag_first_within t o = (tag_first_lawful t o).within

pub variable_within : (t : IntegerType) (o : Endianness) → Within (variable_reading t o)
variable_within t o = (variable_lawful t o).within

-- what the tag's own read does where a byte waits
pub tag_first_on : (t : IntegerType) (o : Endianness) (s : Source) → 1 ≤ length s.waiting → tag_first t o s ≡ outcome (after_tag t o (get_or s.waiting 0 0) (moved 1 s.count s)).answer (1 + (after_tag t o (get_or s.waiting 0 0) (moved 1 s.count s)).used) (after_tag t o (get_or s.waiting 0 0) (moved 1 s.count s)).counted
tag_first_on t o s h =
    tag_first_at t o s h
    ∙ ap (λ x. outcome (after_tag t o x (moved 1 s.count s)).answer (1 + (after_tag t o x (moved 1 s.count s)).used) (after_tag t o x (moved 1 s.count s)).counted) (first_of t o s.waiting)

-- with the bytes in view: a tag that is too wide is refused before it is taken, and any other is taken first
pub in_view_wide : (t : IntegerType) (o : Endianness) (s : Source) → type_width t + 1 ≤ in_view s → is_wide t (get_or s.waiting 0 0) ≡ true → variable_reading t o s ≡ outcome (refused (too_wide (peek_name t) (found t (get_or s.waiting 0 0)))) 0 s.count
in_view_wide t o s h e =
    cond-true (leb (type_width t + 1) (in_view s)) _ _ (le-leb (type_width t + 1) (in_view s) h)
    ∙ ap (λ (f : Reading ℕ). f s) (cond-true (is_wide t (get_or s.waiting 0 0)) _ _ e)

pub in_view_narrow : (t : IntegerType) (o : Endianness) (s : Source) → type_width t + 1 ≤ in_view s → is_wide t (get_or s.waiting 0 0) ≡ false → variable_reading t o s ≡ tag_first t o s
in_view_narrow t o s h e =
    cond-true (leb (type_width t + 1) (in_view s)) _ _ (le-leb (type_width t + 1) (in_view s) h)
    ∙ ap (λ (f : Reading ℕ). f s) (cond-false (is_wide t (get_or s.waiting 0 0)) _ _ e)

pub out_of_view : (t : IntegerType) (o : Endianness) (s : Source) → in_view s < type_width t + 1 → tag_first t o s ≡ variable_reading t o s
out_of_view t o s h = sym (cond-false (leb (type_width t + 1) (in_view s)) _ _ (lt-leb (type_width t + 1) (in_view s) h))

pub number_within : (o : Endianness) (k : ℕ) → Within (number_reading o k)
number_within o k = then_within (taking k) (λ bs. giving (number o bs)) (taking_within k) (λ bs. giving_within (number o bs))
