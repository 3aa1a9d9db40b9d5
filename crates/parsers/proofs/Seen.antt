-- What the bytes in view hold is what a variable integer's reading says.
use Rattle.std.proofs.Common.{◌≡◌, ℕ, ◌+◌, ◌-◌, ◌<◌, ◌≤◌, leb, List, [], ◌∷◌, length, get_or, take, drop, Some, None, Ok, Err, Option, Result, sym, refl, ap, ◌∙◌, add-one, arith, length-drop, take_all, take-take, le-leb}
use Rattle.format.specs.Numbers.{number}
use Rattle.format.specs.Refusals.{given, refused}
use Rattle.format.specs.declared.config.Endianness.{Endianness}
use Rattle.format.specs.declared.error.IntegerType.{IntegerType}
use Rattle.parsers.proofs.Tags.{follows_reads, number_reads, wide_kind, narrow_number, narrow_follows, follows_fits}
use Rattle.parsers.specs.Tags.{tag_kind, seen_by, seen_in}
use Rattle.primitives.specs.Widths.{size}
use Rattle.primitives.specs.declared.varint.Width.{Width}
use Rattle.readings.proofs.Integers.{tag_first_on, in_view_wide, in_view_narrow}
use Rattle.readings.specs.Integers.{type_width, peek_name, number_reading, variable_reading}
use Rattle.readings.specs.Laws.{too_wide}
use Rattle.readings.specs.Readings.{Source, Outcome, outcome, Reading, giving, in_view, moved, resumed}
use Rattle.std.proofs.lemmas.Bool.{cond-true}

-- the first byte, and the rest as a slice pattern has it
pub seen_cases : (t : IntegerType) (o : Endianness) (xs : List ℕ) → 0 < length xs → seen_in t o xs ≡ seen_by o (get_or xs 0 0) (take (length xs - 1) (drop 1 xs)) (tag_kind t (get_or xs 0 0))
seen_cases t o [] h = absurd (omega arith)
seen_cases t o (x ∷ xs) h = ap (λ ys. seen_by o x ys (tag_kind t x)) (sym (take_all (length (x ∷ xs) - 1) xs (omega arith)))

-- the front of some bytes, parsed
parsed_front : (t : IntegerType) (o : Endianness) (n : ℕ) (xs : List ℕ) → 0 < length xs → seen_in t o (take (n + 1) xs) ≡ seen_by o (get_or xs 0 0) (take n (drop 1 xs)) (tag_kind t (get_or xs 0 0))
parsed_front t o n [] h = absurd (omega arith)
parsed_front t o n (y ∷ ys) h = ap (λ k. seen_in t o (take k (y ∷ ys))) (add-one n)

value_of : (v u a b : ℕ) → ◌≡◌ {A = Result (ℕ × ℕ) IntegerType} (Ok (v, u)) (Ok (a, b)) → (v ≡ a) × (u ≡ b)
value_of v u a b e = let same : ◌≡◌ {A = ℕ × ℕ} (v, u) (a, b) = cc in (ap (λ (p : ℕ × ℕ). p.0) same, ap (λ (p : ℕ × ℕ). p.1) same)

wide_of : (f g : IntegerType) → ◌≡◌ {A = Result (ℕ × ℕ) IntegerType} (Err f) (Err g) → f ≡ g
wide_of f g e = cc

module _ (t : IntegerType) (o : Endianness) (s : Source) (h : type_width t + 1 ≤ in_view s) where
  abbrev x : ℕ
  x = get_or s.waiting 0 0

  -- a number that is its own tag
  seen_number : Ok None ≡ tag_kind t x → variable_reading t o s ≡ outcome (given x) 1 s.count
  seen_number e =
      in_view_narrow t o s h (narrow_number t o x e) ∙ tag_first_on t o s (omega arith)
      ∙ ap (λ (f : Reading ℕ). outcome (f (moved 1 s.count s)).answer (1 + (f (moved 1 s.count s)).used) (f (moved 1 s.count s)).counted) (sym (number_reads t o x e))

  -- a number that follows its tag
  seen_follows : (w : Width) → Ok (Some w) ≡ tag_kind t x → variable_reading t o s ≡ outcome (given (number o (take (size w) (drop 1 s.waiting)))) (1 + size w) s.count
  seen_follows w e =
      let k = size w in
      let m = moved 1 s.count s in
      let fits : k ≤ length (drop 1 s.waiting) = omega (arith, follows_fits t o x w e, length-drop 1 s.waiting) in
      let read : number_reading o k m ≡ outcome (given (number o (take k (drop 1 s.waiting)))) (k + 0) s.count = ap (λ (y : Outcome (List ℕ)). resumed (λ bs. giving (number o bs)) m y.answer y.used y.counted) (cond-true (leb k (length (drop 1 s.waiting))) _ _ (le-leb k (length (drop 1 s.waiting)) fits)) in
      in_view_narrow t o s h (narrow_follows t o x w e) ∙ tag_first_on t o s (omega arith)
      ∙ ap (λ (f : Reading ℕ). outcome (f m).answer (1 + (f m).used) (f m).counted) (sym (follows_reads t o x w e))
      ∙ ap (λ (y : Outcome ℕ). outcome y.answer (1 + y.used) y.counted) read
      ∙ ap (λ u. outcome (given (number o (take k (drop 1 s.waiting)))) u s.count) (omega arith)

  -- a tag that is too wide
  seen_wide : (f : IntegerType) → Err f ≡ tag_kind t x → variable_reading t o s ≡ outcome (refused (too_wide (peek_name t) f)) 0 s.count
  seen_wide f e =
      let k = wide_kind t o x f e in
      in_view_wide t o s h k.0 ∙ ap (λ y. outcome (refused (too_wide (peek_name t) y)) 0 s.count) (sym k.1)

  -- what was parsed of the bytes in view
  front : seen_in t o (take (type_width t + 1) s.waiting) ≡ seen_by o x (take (type_width t) (drop 1 s.waiting)) (tag_kind t x)
  front = parsed_front t o (type_width t) s.waiting (omega arith)

  pub seen_value : (v u : ℕ) → Ok (v, u) ≡ seen_in t o (take (type_width t + 1) s.waiting) → (variable_reading t o s ≡ outcome (given v) u s.count) × (u ≤ type_width t + 1)
  seen_value v u e = by (tag_kind t x) refl (e ∙ front)
    where
      by : (k : Result (Option Width) IntegerType) → k ≡ tag_kind t x → Ok (v, u) ≡ seen_by o x (take (type_width t) (drop 1 s.waiting)) k → (variable_reading t o s ≡ outcome (given v) u s.count) × (u ≤ type_width t + 1)
      by (Ok None) p q = let r = value_of v u x 1 q in (seen_number p ∙ (λ i. outcome (given (sym r.0 i)) (sym r.1 i) s.count), omega (arith, r.1))
      by (Ok (Some w)) p q =
          let fits = follows_fits t o x w p in
          let r = value_of v u (number o (take (size w) (take (type_width t) (drop 1 s.waiting)))) (1 + size w) q in
          let same : number o (take (size w) (drop 1 s.waiting)) ≡ v = ap (number o) (sym (take-take (size w) (type_width t) (drop 1 s.waiting) fits)) ∙ sym r.0 in
          (seen_follows w p ∙ (λ i. outcome (given (same i)) (sym r.1 i) s.count), omega (arith, r.1))
      by (Err f) p q = let z : ◌≡◌ {A = ℕ} 0 1 = cc in absurd (omega arith)

  pub seen_too_wide : (f : IntegerType) → Err f ≡ seen_in t o (take (type_width t + 1) s.waiting) → variable_reading t o s ≡ outcome (refused (too_wide (peek_name t) f)) 0 s.count
  seen_too_wide f e = by (tag_kind t x) refl (e ∙ front)
    where
      by : (k : Result (Option Width) IntegerType) → k ≡ tag_kind t x → Err f ≡ seen_by o x (take (type_width t) (drop 1 s.waiting)) k → variable_reading t o s ≡ outcome (refused (too_wide (peek_name t) f)) 0 s.count
      by (Ok None) p q = let z : ◌≡◌ {A = ℕ} 0 1 = cc in absurd (omega arith)
      by (Ok (Some w)) p q = let z : ◌≡◌ {A = ℕ} 0 1 = cc in absurd (omega arith)
      by (Err g) p q = seen_wide g p ∙ ap (λ y. outcome (refused (too_wide (peek_name t) y)) 0 s.count) (sym (wide_of f g q))
