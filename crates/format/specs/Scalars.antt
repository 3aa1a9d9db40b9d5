-- Which numbers are characters: the Unicode scalar values.
use Rattle.std.specs.Prelude.{ℕ, Bool, cond, ◌&&◌, ◌||◌, [], nat_le, nat_lt}
use Rattle.format.specs.Refusals.{Answer, given, refused, refusal}

-- below 0x110000, and none of the surrogates 0xd800 to 0xdfff
abbrev pub scalar : ℕ → Bool
scalar n = nat_lt n 0xd800 || (nat_le 0xe000 n && nat_lt n 0x11_0000)

-- what making a character from a number answers
abbrev pub made_char : ℕ → Answer ℕ
made_char n = cond (scalar n) (given n) (refused (refusal 10 []))
