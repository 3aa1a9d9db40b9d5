-- The UTF-8 form of a character, by the table of RFC 3629, section 3.
use Rattle.std.specs.Prelude.{ℕ, ◌+◌, ◌/◌, ◌%◌, cond, List, [], ◌∷◌, length, nat_lt}

-- 10xxxxxx, with the six lowest bits of n
abbrev pub continuation : ℕ → ℕ
continuation n = 0x80 + n % 64

-- 0xxxxxxx; 110xxxxx 10xxxxxx; 1110xxxx and two more; 11110xxx and three more
abbrev pub utf8 : ℕ → List ℕ
utf8 c =
    cond (nat_lt c 0x80) (c ∷ [])
    (cond (nat_lt c 0x800) ((0xc0 + c / 64) ∷ continuation c ∷ [])
    (cond (nat_lt c 0x1_0000) ((0xe0 + c / 4096) ∷ continuation (c / 64) ∷ continuation c ∷ [])
    ((0xf0 + c / 262144) ∷ continuation (c / 4096) ∷ continuation (c / 64) ∷ continuation c ∷ [])))

-- how many bytes that is
abbrev pub width : ℕ → ℕ
width c = length (utf8 c)
