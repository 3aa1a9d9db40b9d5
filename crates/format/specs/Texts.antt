-- Text by RFC 3629: which bytes are text, and what is told of those that are not.
use Rattle.std.specs.Prelude.{◌≡◌, ℕ, zero, suc, ◌+◌, ◌<◌, ◌≤◌, max, Bool, true, false, cond, ◌&&◌, List, [], ◌∷◌, ◌++◌, length, take, drop, Some, None, Option, ◌==◌, nat_lt, slice_index}
use Rattle.format.specs.Refusals.{Answer, given, refused, Refusal, refusal, optional}
use Rattle.format.specs.Scalars.{scalar}
use Rattle.format.specs.Utf8.{utf8}
use Rattle.format.specs.WellFormed.{tail, second, form_width, well_formed}

-- ---- in the subject's words

-- text is characters' forms in a row
pub data Text : List ℕ → Type 0 where
  none : Text []
  more : (c : ℕ) (rest : List ℕ) → scalar c ≡ true → Text rest → Text (utf8 c ++ rest)

-- the start of a character: a beginning, not the whole, of its form
pub record Start (bs : List ℕ) : Type 0 where
  pub char : ℕ
  pub is_scalar : scalar char ≡ true
  pub short : length bs < length (utf8 char)
  pub begins : take (length bs) (utf8 char) ≡ bs

-- n is the length of the longest beginning of xs of which P holds
pub record Longest (P : List ℕ → Type 0) (xs : List ℕ) (n : ℕ) : Type 0 where
  pub within : n ≤ length xs
  pub holds : P (take n xs)
  pub most : (k : ℕ) → k ≤ length xs → P (take k xs) → k ≤ n

-- the bad length, where a start of m bytes was found and so many bytes are left: none if the start is all that is left, and else m, but at least 1
abbrev pub bad_length : ℕ → ℕ → Option ℕ
bad_length m left = cond (m == left) None (Some (max 1 m))

-- Utf8 (6), with the length of the longest beginning that is text, and the bad length after it
pub record TextFault (xs : List ℕ) (z : Refusal) : Type 0 where
  pub good : ℕ
  pub start : ℕ
  pub longest_text : Longest Text xs good
  pub longest_start : Longest Start (drop good xs) start
  pub told : z ≡ refusal 6 (good ∷ optional (bad_length start (length (drop good xs))))

-- bytes are given exactly if they are text, and are given as they are; what is refused has a fault
pub record TextJudged (xs : List ℕ) (r : Answer (List ℕ)) : Type 0 where
  pub accepts : Text xs → r ≡ given xs
  pub gives : (ys : List ℕ) → r ≡ given ys → (ys ≡ xs) × Text xs
  pub refuses : (z : Refusal) → r ≡ refused z → TextFault xs z

-- ---- by computation

-- whether a character's form begins the bytes
abbrev pub begins_form : List ℕ → Bool
begins_form xs = well_formed (take (form_width (slice_index xs 0)) xs)

-- how many bytes the first n characters take, or those before the first fault
abbrev pub chars_length : ℕ → List ℕ → ℕ
chars_length zero xs = 0
chars_length (suc n) xs = cond (begins_form xs) (form_width (slice_index xs 0) + chars_length n (drop (form_width (slice_index xs 0)) xs)) 0

-- how many bytes are text: there are no more characters than bytes
abbrev pub text_length : List ℕ → ℕ
text_length xs = chars_length (length xs) xs

-- whether the bytes are the start of a character
abbrev pub is_start : List ℕ → Bool
is_start [] = true
is_start (a ∷ []) = nat_lt 1 (form_width a)
is_start (a ∷ b ∷ []) = nat_lt 2 (form_width a) && second a b
is_start (a ∷ b ∷ c ∷ []) = nat_lt 3 (form_width a) && (second a b && tail c)
is_start (a ∷ b ∷ c ∷ d ∷ bs) = false

-- how many bytes the longest start of at most n bytes has
abbrev pub longest_start : ℕ → List ℕ → ℕ
longest_start zero xs = 0
longest_start (suc n) xs = cond (is_start (take (suc n) xs)) (length (take (suc n) xs)) (longest_start n xs)

-- a form has at most four bytes, and a start at most three
abbrev pub start_length : List ℕ → ℕ
start_length xs = longest_start 3 xs

-- what is told where the first n bytes are the longest beginning that is text
abbrev pub text_fault : List ℕ → ℕ → Refusal
text_fault xs n = refusal 6 (n ∷ optional (bad_length (start_length (drop n xs)) (length (drop n xs))))

-- the bytes themselves if they are text, and else the fault
abbrev pub text_verdict : List ℕ → Answer (List ℕ)
text_verdict xs = cond (text_length xs == length xs) (given xs) (refused (text_fault xs (text_length xs)))
