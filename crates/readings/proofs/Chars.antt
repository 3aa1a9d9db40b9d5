-- The laws of a character's reading.
use Rattle.std.proofs.Common.{◌≡◌, ℕ, ◌+◌, ◌-◌, ◌*◌, ◌≤◌, Bool, true, false, T, eqb, List, [], ◌∷◌, ◌++◌, length, get_or, take, drop, sym, refl, ap, ◌∙◌, subst, append-nil, one-add, arith}
use mathlib.Core.HLevel.{is_prop→PathP}
use lib.Dec.{T_prop}
use Rattle.format.proofs.WellFormed.{stands, forms, true_from, test_from}
use Rattle.format.specs.Refusals.{Answer, Refusal, given, refused}
use Rattle.format.specs.Scalars.{scalar}
use Rattle.format.specs.Utf8.{utf8, width}
use Rattle.format.specs.WellFormed.{form_width, well_formed}
use Rattle.format.specs.declared.scalar.Char.{Char}
use Rattle.readings.proofs.Charges.{Within, taking_within, then_within}
use Rattle.readings.proofs.Given.{then_gave, taking_gave}
use Rattle.readings.proofs.Words.{weaker, lent, giving_lawful, refusing_lawful, claiming_lawful, taking_lawful, then_lawful, giving_returns, claiming_returns, taking_returns, then_returns}
use Rattle.readings.specs.Chars.{if_true, char_of, not_char, judged_char, judging, after_claim, after_first, char_reading}
use Rattle.readings.specs.Laws.{Returns, Lawful}
use Rattle.readings.specs.Readings.{Source, outcome, Reading, refusing, claiming, taking, moved, ◌then◌}
use Rattle.std.proofs.lemmas.Bool.{true≢false, eqb-false, ne_eqb, cond-false, cond_both}

-- characters with the same code are the same
pub same_char : (c d : Char) → c.code ≡ d.code → c ≡ d
same_char c d e = λ i. record { code = e i; ok = is_prop→PathP (λ j. T (scalar (e j))) (λ j. T_prop (scalar (e j))) c.ok d.ok i }

-- ---- what every reading keeps

if_true_both : {X : Type 0} (P : X → Type 0) (b : Bool) (f : T b → X) (x : X) → ((h : T b) → P (f h)) → (b ≡ false → P x) → P (if_true b f x)
if_true_both P true f x k l = k tt
if_true_both P false f x k l = l refl

judging_lawful : (have : ℕ) (bs : List ℕ) → Lawful 0 have have (judging bs)
judging_lawful have bs =
    if_true_both (λ (a : Answer Char). Lawful 0 have have (λ s. outcome a 0 s.count)) (well_formed bs) (λ h. given (char_of bs h)) (refused (not_char bs))
    (λ h. giving_lawful 0 have (char_of bs h)) (λ _. refusing_lawful 0 have have (not_char bs))

after_claim_lawful : (a : ℕ) → 1 ≤ form_width a → Lawful 0 (0 + 3 * form_width a) 2 (after_claim a)
after_claim_lawful a h =
    let w = form_width a in
    weaker (after_claim a) 0 (w + 2 + 2 * (w - 1)) (w + 2) 0 (0 + 3 * w) 2 (omega arith) (omega arith) (omega arith)
    (then_lawful 0 (w + 2 + 2 * (w - 1)) (w + 2) (w + 2) (taking (w - 1)) (λ bs. judging (a ∷ bs)) (taking_lawful 0 (w + 2) (w - 1)) (λ bs. judging_lawful (w + 2) (a ∷ bs)))

positive : (n : ℕ) → eqb n 0 ≡ false → 1 ≤ n
positive n e = let h = eqb-false n 0 e in omega arith

after_first_lawful : (a : ℕ) → Lawful 0 0 2 (after_first a)
after_first_lawful a =
    let w = form_width a in
    cond_both {A = Reading Char} (eqb w 0) (refusing (not_char (a ∷ []))) (claiming w then (λ _. after_claim a)) (Lawful 0 0 2)
    (λ _. refusing_lawful 0 0 2 (not_char (a ∷ [])))
    (λ e. then_lawful 0 0 (0 + 3 * w) 2 (claiming w) (λ _. after_claim a) (claiming_lawful 0 0 w) (λ _. after_claim_lawful a (positive w e)))

-- a byte is used before it is claimed: what it costs is free where the reading refuses
pub char_lawful : Lawful 2 0 0 char_reading
char_lawful = lent char_reading 2 (then_lawful 0 2 0 2 (taking 1) (λ bs. after_first (get_or bs 0 0)) (taking_lawful 0 0 1) (λ bs. after_first_lawful (get_or bs 0 0)))

-- what each step uses waits
pub judging_within : (bs : List ℕ) → Within (judging bs)
judging_within bs = (judging_lawful 0 bs).within

pub after_claim_within : (a : ℕ) → Within (after_claim a)
after_claim_within a = then_within (taking (form_width a - 1)) (λ bs. judging (a ∷ bs)) (taking_within (form_width a - 1)) (λ bs. judging_within (a ∷ bs))

pub after_first_within : (a : ℕ) → Within (after_first a)
after_first_within a = (after_first_lawful a).within

-- ---- what is written is returned

if_true_is : {X : Type 0} (b : Bool) (f : T b → X) (x : X) (h : T b) → if_true b f x ≡ f h
if_true_is true f x h = refl
if_true_is false f x h = absurd h

-- what the bytes are judged, if they are well formed, and if they are not
pub judged_well : (bs : List ℕ) (h : T (well_formed bs)) → judged_char bs ≡ given (char_of bs h)
judged_well bs h = if_true_is (well_formed bs) (λ k. given (char_of bs k)) (refused (not_char bs)) h

pub judged_ill : (bs : List ℕ) → well_formed bs ≡ false → judged_char bs ≡ refused (not_char bs)
judged_ill bs e = if_true_both (λ (a : Answer Char). a ≡ refused (not_char bs)) (well_formed bs) (λ k. given (char_of bs k)) (refused (not_char bs)) (λ h. absurd (true≢false (sym (true_from (well_formed bs) h) ∙ e))) (λ _. refl)

form_returns : (a : ℕ) (rest : List ℕ) (h : T (well_formed (a ∷ rest))) → Returns char_reading (a ∷ rest) (length (a ∷ rest)) (char_of (a ∷ rest) h)
form_returns a rest h =
    let c = char_of (a ∷ rest) h in
    let w = form_width a in
    let wide : w ≡ length (a ∷ rest) = (stands (a ∷ rest) (true_from (well_formed (a ∷ rest)) h)).wide in
    let left : length rest ≡ w - 1 = omega arith in
    let some : (w ≡ 0 → ⊥) = λ z. omega arith in
    let last : Returns (judging (a ∷ rest)) [] 0 c = subst (λ (x : Answer Char). Returns (λ s. outcome x 0 s.count) [] 0 c) (sym (judged_well (a ∷ rest) h)) (giving_returns c) in
    let rest_returns : Returns (after_claim a) (rest ++ []) 0 c = then_returns (taking (w - 1)) (λ bs. judging (a ∷ bs)) rest c rest [] 0 0 (taking_returns (w - 1) rest left) last in
    let claimed : Returns (claiming w then (λ _. after_claim a)) (rest ++ []) (w + 0) c = then_returns (claiming w) (λ _. after_claim a) tt c [] (rest ++ []) w 0 (claiming_returns w) rest_returns in
    let after : Returns (after_first a) (rest ++ []) (w + 0) c = subst (λ (f : Reading Char). Returns f (rest ++ []) (w + 0) c) (sym (cond-false (eqb w 0) _ _ (ne_eqb w 0 some))) claimed in
    let all : Returns char_reading (a ∷ (rest ++ [])) (0 + (w + 0)) c = then_returns (taking 1) (λ bs. after_first (get_or bs 0 0)) (a ∷ []) c (a ∷ []) (rest ++ []) 0 (w + 0) (taking_returns 1 (a ∷ []) refl) after in
    let claim : 0 + (w + 0) ≡ length (a ∷ rest) = omega arith in
    subst (λ n. Returns char_reading (a ∷ rest) n c) claim (subst (λ xs. Returns char_reading (a ∷ xs) (0 + (w + 0)) c) (append-nil rest) all)

well_formed_returns : (bs : List ℕ) (h : T (well_formed bs)) → Returns char_reading bs (length bs) (char_of bs h)
well_formed_returns [] h = absurd h
well_formed_returns (a ∷ rest) h = form_returns a rest h

pub char_returns : (c : Char) → Returns char_reading (utf8 c.code) (width c.code) c
char_returns c =
    let k = forms c.code (true_from (scalar c.code) c.ok) in
    let h = test_from (well_formed (utf8 c.code)) k.well in
    subst (λ (d : Char). Returns char_reading (utf8 c.code) (width c.code) d) (same_char (char_of (utf8 c.code) h) c k.code) (well_formed_returns (utf8 c.code) h)

-- ---- what is given was written

-- a refused answer gives nothing
refused_gave : {A : Type 0} (P : Type 0) (z : Refusal) (a : A) → refused z ≡ given a → P
refused_gave P z a e = let k : ◌≡◌ {A = ℕ} 0 1 = cc in absurd (omega arith)

given_same : (c d : Char) → given c ≡ given d → c ≡ d
given_same c d e = cc

module _ (a : ℕ) (c : Char) where
  -- a reading that used the rest of the form of c, after the byte a
  abbrev Used : Source → Reading Char → Type 0
  Used s f = (f s).answer ≡ given c → (a ∷ take (f s).used s.waiting) ≡ utf8 c.code

  judged_gave : (xs : List ℕ) → judged_char xs ≡ given c → xs ≡ utf8 c.code
  judged_gave xs =
      if_true_both (λ (x : Answer Char). x ≡ given c → xs ≡ utf8 c.code) (well_formed xs) (λ h. given (char_of xs h)) (refused (not_char xs))
      (λ h e. sym (stands xs (true_from (well_formed xs) h)).form ∙ ap (λ (d : Char). utf8 d.code) (given_same (char_of xs h) c e))
      (λ _ e. refused_gave (xs ≡ utf8 c.code) (not_char xs) c e)

  after_claim_gave : (s : Source) → Used s (after_claim a)
  after_claim_gave s e =
      let n = form_width a - 1 in
      let k = then_gave (taking n) (λ bs. judging (a ∷ bs)) s c e in
      let t = taking_gave n s k.value k.first in
      let used : (after_claim a s).used ≡ n = omega (arith, k.used, t.used) in
      ap (λ u. a ∷ take u s.waiting) used ∙ ap (λ xs. a ∷ xs) (sym t.value) ∙ judged_gave (a ∷ k.value) k.second

  claimed_gave : (s : Source) → Used s (claiming (form_width a) then (λ _. after_claim a))
  claimed_gave s e =
      let w = form_width a in
      let k = then_gave (claiming w) (λ _. after_claim a) s c e in
      let m = moved 0 (claiming w s).counted s in
      let used : ((claiming w then (λ _. after_claim a)) s).used ≡ (after_claim a m).used = omega (arith, k.used) in
      ap (λ u. a ∷ take u s.waiting) used ∙ after_claim_gave m k.second

  after_first_gave : (s : Source) → Used s (after_first a)
  after_first_gave s =
      cond_both {A = Reading Char} (eqb (form_width a) 0) (refusing (not_char (a ∷ []))) (claiming (form_width a) then (λ _. after_claim a)) (Used s)
      (λ _ e. refused_gave ((a ∷ take 0 s.waiting) ≡ utf8 c.code) (not_char (a ∷ [])) c e)
      (λ _. claimed_gave s)

take_first : (n : ℕ) (xs : List ℕ) → 1 ≤ length xs → take (1 + n) xs ≡ get_or (take 1 xs) 0 0 ∷ take n (drop 1 xs)
take_first n [] h = absurd (omega arith)
take_first n (x ∷ xs) h = ap (λ k. take k (x ∷ xs)) (one-add n)

pub char_accepts : (s : Source) (c : Char) → (char_reading s).answer ≡ given c → take (char_reading s).used s.waiting ≡ utf8 c.code
char_accepts s c e =
    let k = then_gave (taking 1) (λ bs. after_first (get_or bs 0 0)) s c e in
    let t = taking_gave 1 s k.value k.first in
    let m = moved (taking 1 s).used (taking 1 s).counted s in
    let a = get_or k.value 0 0 in
    let u = (after_first a m).used in
    let used : (char_reading s).used ≡ 1 + u = k.used ∙ ap (λ n. n + u) t.used in
    ap (λ n. take n s.waiting) used ∙ take_first u s.waiting t.fits
    ∙ (λ i. get_or (sym t.value i) 0 0 ∷ take u (drop (sym t.used i) s.waiting))
    ∙ after_first_gave a c m k.second
