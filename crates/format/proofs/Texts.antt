-- What is judged of bytes as text holds in the subject's words.
use Rattle.std.proofs.Common.{◌≡◌, ℕ, zero, suc, ◌+◌, ◌<◌, ◌≤◌, Bool, true, false, cond, ◌&&◌, ◌||◌, eqb, ltb, leb, List, [], ◌∷◌, ◌++◌, length, get_or, take, drop, IsUtf8, sym, refl, ap, ◌∙◌, subst, append_assoc, add-zero, arith, length-append, length-drop, take-append-drop, length-take, get_or-take, take-add}
use lib.Seq.{take-length}
use lib.Utf8 as kit
use Rattle.format.proofs.Starts.{longest_start_is}
use Rattle.format.proofs.WellFormed.{stands, forms}
use Rattle.format.specs.Refusals.{Answer, given, refused, Refusal}
use Rattle.format.specs.Scalars.{scalar}
use Rattle.format.specs.Texts.{Text, none, more, Longest, TextFault, TextJudged, begins_form, chars_length, text_length, start_length, text_fault, text_verdict}
use Rattle.format.specs.Utf8.{utf8}
use Rattle.format.specs.WellFormed.{form_width, well_formed, code_of}
use Rattle.std.proofs.lemmas.List.{drop_at, take_at}
use Rattle.std.proofs.lemmas.Bool.{cond-true, cond-false, cond_both, eq-eqb, ne_eqb, eqb-true, and_from, and_parts}

-- ---- bytes that begin with a character's form

first_of : (bs rest : List ℕ) → 1 ≤ length bs → get_or (bs ++ rest) 0 0 ≡ get_or bs 0 0
first_of [] rest h = absurd (omega arith)
first_of (b ∷ bs) rest h = refl

form_some : (bs : List ℕ) → well_formed bs ≡ true → 1 ≤ length bs
form_some [] e = let z : ◌≡◌ {A = ℕ} 0 1 = cc in absurd (omega arith)
form_some (b ∷ bs) e = omega arith

-- where a form stands in front, the first byte tells its length
pub front_width : (bs rest : List ℕ) → well_formed bs ≡ true → form_width (get_or (bs ++ rest) 0 0) ≡ length bs
front_width bs rest e = ap form_width (first_of bs rest (form_some bs e)) ∙ (stands bs e).wide

pub front_begins : (bs rest : List ℕ) → well_formed bs ≡ true → begins_form (bs ++ rest) ≡ true
front_begins bs rest e = ap well_formed (take_at bs rest (form_width (get_or (bs ++ rest) 0 0)) (sym (front_width bs rest e))) ∙ e

-- what the first byte says where a form begins the bytes
pub record Front (xs : List ℕ) : Type 0 where
  pub some : 1 ≤ form_width (get_or xs 0 0)
  pub within : form_width (get_or xs 0 0) ≤ length xs

pub begins_front : (xs : List ℕ) → begins_form xs ≡ true → Front xs
begins_front xs e =
    let w = form_width (get_or xs 0 0) in
    let l = length-take w xs in
    let s = form_some (take w xs) e in
    let some : 0 < w = omega arith in
    let wide : w ≡ length (take w xs) = ap form_width (sym (get_or-take w xs 0 0 some)) ∙ (stands (take w xs) e).wide in
    record { some = some; within = omega arith }

-- a form and then text is text
pub front_text : (xs : List ℕ) (n : ℕ) → begins_form xs ≡ true → Text (take n (drop (form_width (get_or xs 0 0)) xs)) → Text (take (form_width (get_or xs 0 0) + n) xs)
front_text xs n e t =
    let w = form_width (get_or xs 0 0) in
    let s = stands (take w xs) e in
    subst Text (sym (take-add w n xs)) (subst (λ bs. Text (bs ++ take n (drop w xs))) s.form (more (code_of (take w xs)) (take n (drop w xs)) s.scalar_value t))

-- text and then text is text
pub text_append : {ys zs : List ℕ} → Text ys → Text zs → Text (ys ++ zs)
text_append none u = u
text_append {zs = zs} (more c rest sc t) u = subst Text (sym (append_assoc (utf8 c) rest zs)) (more c (rest ++ zs) sc (text_append t u))

-- text that a form follows, with the form
pub text_longer : (xs : List ℕ) (k : ℕ) → Text (take k xs) → begins_form (drop k xs) ≡ true → Text (take (k + form_width (get_or (drop k xs) 0 0)) xs)
text_longer xs k t e =
    let w = form_width (get_or (drop k xs) 0 0) in
    subst Text (sym (take-add k w xs)) (text_append t (subst (λ n. Text (take n (drop k xs))) (add-zero w) (front_text (drop k xs) 0 e none)))

-- the length of the form in front, or 0: where it is 0 there is none, and else that many bytes of it
pub leading_none : (xs : List ℕ) (w : ℕ) → w ≡ cond (begins_form xs) (form_width (get_or xs 0 0)) 0 → w ≡ 0 → begins_form xs ≡ false
leading_none xs w e z = by (begins_form xs) (begins_front xs) (sym e ∙ z)
  where
    by : (b : Bool) → (b ≡ true → Front xs) → cond b (form_width (get_or xs 0 0)) 0 ≡ 0 → b ≡ false
    by true f q = let k = f refl in absurd (omega (arith, k.some))
    by false f q = refl

pub leading_some : (xs : List ℕ) (w : ℕ) → w ≡ cond (begins_form xs) (form_width (get_or xs 0 0)) 0 → (w ≡ 0 → ⊥) → (begins_form xs ≡ true) × (w ≡ form_width (get_or xs 0 0))
leading_some xs w e n = by (begins_form xs) e
  where
    by : (b : Bool) → w ≡ cond b (form_width (get_or xs 0 0)) 0 → (b ≡ true) × (w ≡ form_width (get_or xs 0 0))
    by true q = (refl, q)
    by false q = absurd (n q)

-- ---- the longest beginning that is text

chars_text : (n : ℕ) (xs : List ℕ) → (chars_length n xs ≤ length xs) × Text (take (chars_length n xs) xs)
chars_text zero xs = (omega arith, none)
chars_text (suc n) xs =
    let w = form_width (get_or xs 0 0) in
    let r = chars_text n (drop w xs) in
    cond_both (begins_form xs) (w + chars_length n (drop w xs)) 0 (λ m. (m ≤ length xs) × Text (take m xs))
    (λ e. (omega (arith, (begins_front xs e).within, r.0, length-drop w xs), front_text xs (chars_length n (drop w xs)) e r.1))
    (λ _. (omega arith, none))

chars_front : (bs rest : List ℕ) (n : ℕ) → well_formed bs ≡ true → chars_length (suc n) (bs ++ rest) ≡ length bs + chars_length n rest
chars_front bs rest n e =
    let w = front_width bs rest e in
    cond-true (begins_form (bs ++ rest)) _ _ (front_begins bs rest e)
    ∙ (λ i. w i + chars_length n (drop (w i) (bs ++ rest))) ∙ ap (λ xs. length bs + chars_length n xs) (drop_at bs rest (length bs) refl)

-- at a character's form and what follows it, with enough characters allowed
at_form : (P : ℕ → Type 0) (c : ℕ) (rest zs : List ℕ) → scalar c ≡ true → (n : ℕ) → length ((utf8 c ++ rest) ++ zs) ≤ n → ((m : ℕ) → length (rest ++ zs) ≤ m → P (length (utf8 c) + chars_length m (rest ++ zs))) → P (chars_length n ((utf8 c ++ rest) ++ zs))
at_form P c rest zs sc n h k =
    let e = (forms c sc).well in
    let s = form_some (utf8 c) e in
    let q = append_assoc (utf8 c) rest zs in
    let l : length (utf8 c) + length (rest ++ zs) ≤ n = omega (arith, h, ap length q, length-append (utf8 c) (rest ++ zs)) in
    subst (λ xs. P (chars_length n xs)) (sym q) (by n e s l)
  where
    by : (m : ℕ) → well_formed (utf8 c) ≡ true → 1 ≤ length (utf8 c) → length (utf8 c) + length (rest ++ zs) ≤ m → P (chars_length m (utf8 c ++ (rest ++ zs)))
    by zero e s l = absurd (omega arith)
    by (suc m) e s l = subst P (sym (chars_front (utf8 c) (rest ++ zs) m e)) (k m (omega arith))

-- text in front is counted whole
text_counted : {ys : List ℕ} → Text ys → (zs : List ℕ) (n : ℕ) → length (ys ++ zs) ≤ n → length ys ≤ chars_length n (ys ++ zs)
text_counted none zs n h = omega arith
text_counted (more c rest sc t) zs n h =
    at_form (λ m. length (utf8 c ++ rest) ≤ m) c rest zs sc n h (λ m l. let r = text_counted t zs m l in omega (arith, length-append (utf8 c) rest))

-- and nothing more where no form follows it
text_stops : {ys : List ℕ} → Text ys → (zs : List ℕ) (n : ℕ) → length (ys ++ zs) ≤ n → begins_form zs ≡ false → chars_length n (ys ++ zs) ≡ length ys
text_stops none zs zero h e = refl
text_stops none zs (suc n) h e = cond-false (begins_form zs) _ _ e
text_stops (more c rest sc t) zs n h e =
    at_form (λ m. m ≡ length (utf8 c ++ rest)) c rest zs sc n h (λ m l. let r = text_stops t zs m l e in omega (arith, length-append (utf8 c) rest))

-- the same of a beginning of the bytes
module _ (xs : List ℕ) (k : ℕ) (h : k ≤ length xs) (t : Text (take k xs)) where
  length_front : length (take k xs) ≡ k
  length_front = omega (arith, length-take k xs)

  whole : take k xs ++ drop k xs ≡ xs
  whole = take-append-drop k xs

  text_most : k ≤ text_length xs
  text_most =
      subst (λ n. n ≤ text_length xs) length_front
      (subst (λ ys. length (take k xs) ≤ chars_length (length xs) ys) whole (text_counted t (drop k xs) (length xs) (omega (arith, ap length whole))))

  pub text_ends : begins_form (drop k xs) ≡ false → text_length xs ≡ k
  text_ends e =
      ap (chars_length (length xs)) (sym whole) ∙ text_stops t (drop k xs) (length xs) (omega (arith, ap length whole)) e ∙ length_front

pub longest_text_is : (xs : List ℕ) → Longest Text xs (text_length xs)
longest_text_is xs = let r = chars_text (length xs) xs in record { within = r.0; holds = r.1; most = text_most xs }

-- ---- the verdict

text_whole : (xs : List ℕ) → Text xs → text_length xs ≡ length xs
text_whole xs t =
    let l = longest_text_is xs in
    let m = l.most (length xs) (omega arith) (subst Text (sym (take-length xs)) t) in
    omega (arith, l.within)

pub verdict_text : (xs : List ℕ) → Text xs → text_verdict xs ≡ given xs
verdict_text xs t = cond-true (eqb (text_length xs) (length xs)) _ _ (eq-eqb (text_length xs) (length xs) (text_whole xs t))

pub verdict_fault : (xs : List ℕ) (k : ℕ) → k < length xs → Text (take k xs) → begins_form (drop k xs) ≡ false → text_verdict xs ≡ refused (text_fault xs k)
verdict_fault xs k h t e =
    let l = text_ends xs k (omega arith) t e in
    cond-false (eqb (text_length xs) (length xs)) _ _ (ne_eqb (text_length xs) (length xs) (λ q. omega arith)) ∙ ap (λ n. refused (text_fault xs n)) l

given_same : (xs ys : List ℕ) → given xs ≡ given ys → ys ≡ xs
given_same xs ys e = cc

refused_same : (y z : Refusal) → ◌≡◌ {A = Answer (List ℕ)} (refused y) (refused z) → z ≡ y
refused_same y z e = cc

given_not_refused : (P : Type 0) (xs : List ℕ) (z : Refusal) → given xs ≡ refused z → P
given_not_refused P xs z e = let k : ◌≡◌ {A = ℕ} 0 1 = cc in absurd (omega arith)

refused_not_given : (P : Type 0) (z : Refusal) (xs : List ℕ) → refused z ≡ given xs → P
refused_not_given P z xs e = let k : ◌≡◌ {A = ℕ} 0 1 = cc in absurd (omega arith)

pub text_judged : (xs : List ℕ) → TextJudged xs (text_verdict xs)
text_judged xs =
    let g = text_length xs in
    let l = longest_text_is xs in
    record {
      accepts = verdict_text xs;
      gives = λ ys. cond_both (eqb g (length xs)) (given xs) (refused (text_fault xs g)) (λ r. r ≡ given ys → (ys ≡ xs) × Text xs)
          (λ q e. (given_same xs ys e, subst Text (ap (λ n. take n xs) (eqb-true g (length xs) q) ∙ take-length xs) l.holds))
          (λ q. refused_not_given ((ys ≡ xs) × Text xs) (text_fault xs g) ys);
      refuses = λ z. cond_both (eqb g (length xs)) (given xs) (refused (text_fault xs g)) (λ r. r ≡ refused z → TextFault xs z)
          (λ q. given_not_refused (TextFault xs z) xs z)
          (λ q e. record { good = g; start = start_length (drop g xs); longest_text = l; longest_start = longest_start_is (drop g xs); told = refused_same (text_fault xs g) z e });
    }

-- ---- this text is the kit's

scalar_same : (c : ℕ) → kit.scalar c ≡ scalar c
scalar_same c = by (ltb c 0xd800) (leb 0xe000 c && ltb c 0x11_0000)
  where
    by : (a b : Bool) → cond a true b ≡ (a || b)
    by true b = refl
    by false b = refl

encode_same : (c : ℕ) → kit.encode c ≡ utf8 c
unfolding kit.encode
encode_same c = refl

pub text_utf8 : {xs : List ℕ} → Text xs → IsUtf8 xs
text_utf8 none = ([], (refl, refl))
text_utf8 (more c rest sc t) =
    let u = text_utf8 t in
    (c ∷ u.0, (and_from (kit.scalar c) (kit.scalars u.0) (scalar_same c ∙ sc) u.1.0, (λ i. encode_same c i ++ u.1.1 i)))

pub utf8_text : (xs : List ℕ) → IsUtf8 xs → Text xs
utf8_text xs u = subst Text u.1.1 (by u.0 u.1.0)
  where
    by : (cs : List ℕ) → kit.scalars cs ≡ true → Text (kit.encodes cs)
    by [] e = none
    by (c ∷ cs) e =
        let k = and_parts (kit.scalar c) (kit.scalars cs) e in
        subst (λ bs. Text (bs ++ kit.encodes cs)) (sym (encode_same c)) (more c (kit.encodes cs) (sym (scalar_same c) ∙ k.0) (by cs k.1))
