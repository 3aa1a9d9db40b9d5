-- The fourteen lines of the listing: what the definitions give, and what stands there.
use Rattle.std.specs.Prelude.{◌≡◌, ℕ, true, List, [], ◌∷◌, negsuc, Some, Err}
use Rattle.std.proofs.Common.{lit<}
use Rattle.cases.specs.Carried.{u32_carried, u64_carried, i32_carried, f64_carried, char_carried, duration_carried, option_carried, result_carried, lv_carried, lf_carried, bv_carried, bf_carried}
use Rattle.cases.specs.Lines.{laid}
use Rattle.cases.specs.declared.line.Line.{Line}
use Rattle.elements.specs.Elements.{ElementMeaning, within64}
use Rattle.format.specs.declared.double.F64.{F64}
use Rattle.format.specs.declared.duration.Duration.{Duration}
use Rattle.format.specs.declared.scalar.Char.{Char}
use Rattle.format.specs.Pieces.{joined}
use Rattle.interfaces.specs.Policies.{PolicyMeaning}

-- a line: the bytes of a value under a policy, and its claim
abbrev pub written : {A : Type 0} → ElementMeaning A → PolicyMeaning → A → List ℕ × ℕ
written e p v = (joined (e.writing p.order p.encoding v), e.claim v)

-- the character with code 8364, one second and five nanoseconds, and the double 1
abbrev pub euro : Char
euro = record { code = 8364; ok = tt }

abbrev pub second_and_five : Duration
second_and_five = record { secs = 1; nanos = 5; ok = lit< tt }

abbrev pub one : F64
one = record { bits = 0x3ff0_0000_0000_0000 }

-- what the meanings that the impls carry say of the fourteen cases
abbrev pub by_definition : List (List ℕ × ℕ)
by_definition =
    written u64_carried lv_carried 250
    ∷ written u64_carried lv_carried 251
    ∷ written u64_carried bv_carried 251
    ∷ written u64_carried lv_carried 65535
    ∷ written u64_carried lv_carried 65536
    ∷ written u64_carried lv_carried 4294967296
    ∷ written u32_carried bf_carried 7
    ∷ written i32_carried lv_carried (negsuc 0)
    ∷ written i32_carried lv_carried (negsuc 2147483647)
    ∷ written char_carried lv_carried euro
    ∷ written option_carried lv_carried (Some 7)
    ∷ written result_carried lf_carried (Err true)
    ∷ written duration_carried lv_carried second_and_five
    ∷ written f64_carried lv_carried one
    ∷ []

-- what stands in the listing
abbrev pub listed : List (List ℕ × ℕ)
listed =
    (0xfa ∷ [], 8)
    ∷ (0xfb ∷ 0xfb ∷ 0x00 ∷ [], 8)
    ∷ (0xfb ∷ 0x00 ∷ 0xfb ∷ [], 8)
    ∷ (0xfb ∷ 0xff ∷ 0xff ∷ [], 8)
    ∷ (0xfc ∷ 0x00 ∷ 0x00 ∷ 0x01 ∷ 0x00 ∷ [], 8)
    ∷ (0xfd ∷ 0x00 ∷ 0x00 ∷ 0x00 ∷ 0x00 ∷ 0x01 ∷ 0x00 ∷ 0x00 ∷ 0x00 ∷ [], 8)
    ∷ (0x00 ∷ 0x00 ∷ 0x00 ∷ 0x07 ∷ [], 4)
    ∷ (0x01 ∷ [], 4)
    ∷ (0xfc ∷ 0xff ∷ 0xff ∷ 0xff ∷ 0xff ∷ [], 4)
    ∷ (0xe2 ∷ 0x82 ∷ 0xac ∷ [], 3)
    ∷ (0x01 ∷ 0x07 ∷ [], 3)
    ∷ (0x01 ∷ 0x00 ∷ 0x00 ∷ 0x00 ∷ 0x01 ∷ [], 5)
    ∷ (0x01 ∷ 0x05 ∷ [], 12)
    ∷ (0x00 ∷ 0x00 ∷ 0x00 ∷ 0x00 ∷ 0x00 ∷ 0x00 ∷ 0xf0 ∷ 0x3f ∷ [], 8)
    ∷ []

-- the definitions give the listing
abbrev pub TheDefinitionsGiveTheListing : Type 0
TheDefinitionsGiveTheListing = by_definition ≡ listed

-- the line that a case of the listing is: its bytes in sixteen, and its claim as a public call answers it
abbrev pub answered : List ℕ × ℕ → Line
answered l = laid l.0 (within64 l.1)
