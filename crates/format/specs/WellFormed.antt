-- Which bytes are a character's UTF-8 form, by the table of RFC 3629, section 4, and the number that they stand for.
use Rattle.std.specs.Prelude.{ℕ, ◌+◌, ◌-◌, ◌*◌, Bool, false, cond, ◌&&◌, List, [], ◌∷◌, ◌==◌, nat_le}

-- b is from lo to hi
abbrev pub among : ℕ → ℕ → ℕ → Bool
among lo hi b = nat_le lo b && nat_le b hi

-- UTF8-tail: 80-BF
abbrev pub tail : ℕ → Bool
tail b = among 0x80 0xbf b

-- how many bytes a form has that begins with this byte: 1 after 00-7F, 2 after C2-DF, 3 after E0-EF, 4 after F0-F4; no form begins with another byte
abbrev pub form_width : ℕ → ℕ
form_width a = cond (nat_le a 0x7f) 1 (cond (among 0xc2 0xdf a) 2 (cond (among 0xe0 0xef a) 3 (cond (among 0xf0 0xf4 a) 4 0)))

-- whether b may be the second byte after a: A0-BF after E0, 80-9F after ED, 90-BF after F0, 80-8F after F4, and UTF8-tail after the others
abbrev pub second : ℕ → ℕ → Bool
second a b =
    cond (a == 0xe0) (among 0xa0 0xbf b) (cond (a == 0xed) (among 0x80 0x9f b) (cond (a == 0xf0) (among 0x90 0xbf b) (cond (a == 0xf4) (among 0x80 0x8f b) (tail b))))

-- whether the bytes are one character's form: UTF8-1, UTF8-2, UTF8-3 or UTF8-4
abbrev pub well_formed : List ℕ → Bool
well_formed [] = false
well_formed (a ∷ []) = form_width a == 1
well_formed (a ∷ b ∷ []) = form_width a == 2 && second a b
well_formed (a ∷ b ∷ c ∷ []) = form_width a == 3 && (second a b && tail c)
well_formed (a ∷ b ∷ c ∷ d ∷ []) = form_width a == 4 && (second a b && (tail c && tail d))
well_formed (a ∷ b ∷ c ∷ d ∷ e ∷ bs) = false

-- the number that they stand for: five, four or three bits of the first byte, and six of each other one
abbrev pub code_of : List ℕ → ℕ
code_of [] = 0
code_of (a ∷ []) = a
code_of (a ∷ b ∷ []) = (a - 0xc0) * 64 + (b - 0x80)
code_of (a ∷ b ∷ c ∷ []) = (a - 0xe0) * 4096 + (b - 0x80) * 64 + (c - 0x80)
code_of (a ∷ b ∷ c ∷ d ∷ []) = (a - 0xf0) * 262144 + (b - 0x80) * 4096 + (c - 0x80) * 64 + (d - 0x80)
code_of (a ∷ b ∷ c ∷ d ∷ e ∷ bs) = 0
