-- What a tag says is what the reading after it is.
use Rattle.std.proofs.Common.{◌≡◌, ℕ, ◌≤◌, Bool, true, false, cond, eqb, ltb, Some, None, Ok, Err, Option, Result, sym, refl, ap, ◌∙◌, arith, ltb-false}
use Rattle.format.specs.declared.config.Endianness.{Endianness}
use Rattle.format.specs.declared.error.IntegerType.{IntegerType}
use Rattle.format.specs.declared.error.IntegerType.TheVariants.{U16, U32, U64, U128, Usize, I16, I32, I64, I128, Reserved}
use Rattle.parsers.specs.Tags.{following_width, tag_kind}
use Rattle.primitives.specs.Widths.{size}
use Rattle.primitives.specs.declared.varint.Width.{Width}
use Rattle.primitives.specs.declared.varint.Width.TheVariants.{Two, Four, Eight}
use Rattle.readings.specs.Integers.{type_width, following, is_wide, found, number_reading, after_tag}
use Rattle.readings.specs.Laws.{too_wide}
use Rattle.readings.specs.Readings.{Reading, giving, refusing}
use Rattle.std.proofs.lemmas.Bool.{cond-false}

width_most : (t : IntegerType) → type_width t ≤ 8
width_most U16 = omega arith
width_most I16 = omega arith
width_most U32 = omega arith
width_most I32 = omega arith
width_most U64 = omega arith
width_most I64 = omega arith
width_most Usize = omega arith
width_most U128 = omega arith
width_most I128 = omega arith
width_most Reserved = omega arith

-- a tag of 251 and more that is not too wide is followed by as many bytes as its width says
follows_size : (t : IntegerType) (x : ℕ) → ltb x 251 ≡ false → is_wide t x ≡ false → following x ≡ size (following_width x)
follows_size t x above narrow =
    cond-false (ltb x 251) _ _ above ∙ by (eqb x 251) (eqb x 252) (eqb x 253) (omega (arith, ltb-false (type_width t) (following x) narrow, width_most t, cond-false {A = ℕ} (ltb x 251) 0 (cond (eqb x 251) 2 (cond (eqb x 252) 4 (cond (eqb x 253) 8 16))) above))
  where
    by : (a b c : Bool) → cond a 2 (cond b 4 (cond c 8 16)) ≤ 8 → cond a 2 (cond b 4 (cond c 8 16)) ≡ size (cond a Two (cond b Four Eight))
    by true b c h = refl
    by false true c h = refl
    by false false true h = refl
    by false false false h = absurd (omega arith)

module _ (t : IntegerType) (o : Endianness) (x : ℕ) where
  abbrev kind_by : Bool → Bool → Result (Option Width) IntegerType
  kind_by a b = cond a (Err (found t x)) (cond b (Ok None) (Ok (Some (following_width x))))

  abbrev reading_by : Bool → Bool → Reading ℕ
  reading_by a b = cond a (refusing (too_wide t (found t x))) (cond b (giving x) (number_reading o (following x)))

  pub follows_reads : (w : Width) → Ok (Some w) ≡ tag_kind t x → number_reading o (size w) ≡ after_tag t o x
  follows_reads w e = by (is_wide t x) (ltb x 251) (λ n a. follows_size t x a n) e
    where
      by : (a b : Bool) → (a ≡ false → b ≡ false → following x ≡ size (following_width x)) → Ok (Some w) ≡ kind_by a b → number_reading o (size w) ≡ reading_by a b
      by true b k e = let z : ◌≡◌ {A = ℕ} 0 1 = cc in absurd (omega arith)
      by false true k e = let z : ◌≡◌ {A = ℕ} 0 1 = cc in absurd (omega arith)
      by false false k e = let same : w ≡ following_width x = cc in ap (λ v. number_reading o (size v)) same ∙ ap (number_reading o) (sym (k refl refl))

  pub wide_reads : (f : IntegerType) → Err f ≡ tag_kind t x → refusing (too_wide t f) ≡ after_tag t o x
  wide_reads f e = by (is_wide t x) (ltb x 251) e
    where
      by : (a b : Bool) → Err f ≡ kind_by a b → refusing {A = ℕ} (too_wide t f) ≡ reading_by a b
      by true b e = let same : f ≡ found t x = cc in ap (λ y. refusing {A = ℕ} (too_wide t y)) same
      by false true e = let z : ◌≡◌ {A = ℕ} 0 1 = cc in absurd (omega arith)
      by false false e = let z : ◌≡◌ {A = ℕ} 0 1 = cc in absurd (omega arith)

  pub number_reads : Ok None ≡ tag_kind t x → giving x ≡ after_tag t o x
  number_reads e = by (is_wide t x) (ltb x 251) e
    where
      by : (a b : Bool) → Ok None ≡ kind_by a b → giving x ≡ reading_by a b
      by true b e = let z : ◌≡◌ {A = ℕ} 0 1 = cc in absurd (omega arith)
      by false true e = refl
      by false false e = let z : ◌≡◌ {A = ℕ} 0 1 = cc in absurd (omega arith)

  -- which tags are too wide
  pub wide_kind : (f : IntegerType) → Err f ≡ tag_kind t x → (is_wide t x ≡ true) × (f ≡ found t x)
  wide_kind f e = by (is_wide t x) (ltb x 251) e
    where
      by : (a b : Bool) → Err f ≡ kind_by a b → (a ≡ true) × (f ≡ found t x)
      by true b e = (refl, cc)
      by false true e = let z : ◌≡◌ {A = ℕ} 0 1 = cc in absurd (omega arith)
      by false false e = let z : ◌≡◌ {A = ℕ} 0 1 = cc in absurd (omega arith)

  pub narrow_number : Ok None ≡ tag_kind t x → is_wide t x ≡ false
  narrow_number e = by (is_wide t x) (ltb x 251) e
    where
      by : (a b : Bool) → Ok None ≡ kind_by a b → a ≡ false
      by true b e = let z : ◌≡◌ {A = ℕ} 0 1 = cc in absurd (omega arith)
      by false b e = refl

  pub narrow_follows : (w : Width) → Ok (Some w) ≡ tag_kind t x → is_wide t x ≡ false
  narrow_follows w e = by (is_wide t x) (ltb x 251) e
    where
      by : (a b : Bool) → Ok (Some w) ≡ kind_by a b → a ≡ false
      by true b e = let z : ◌≡◌ {A = ℕ} 0 1 = cc in absurd (omega arith)
      by false b e = refl

  -- what follows has no more bytes than the type
  pub follows_fits : (w : Width) → Ok (Some w) ≡ tag_kind t x → size w ≤ type_width t
  follows_fits w e = by (is_wide t x) (ltb x 251) refl refl e
    where
      by : (a b : Bool) → is_wide t x ≡ a → ltb x 251 ≡ b → Ok (Some w) ≡ kind_by a b → size w ≤ type_width t
      by true b p q e = let z : ◌≡◌ {A = ℕ} 0 1 = cc in absurd (omega arith)
      by false true p q e = let z : ◌≡◌ {A = ℕ} 0 1 = cc in absurd (omega arith)
      by false false p q e = let same : w ≡ following_width x = cc in omega (arith, ap size same, follows_size t x q p, ltb-false (type_width t) (following x) p)
