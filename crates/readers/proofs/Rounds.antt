-- The front of the bytes that wait in a ring.
use Rattle.std.proofs.Common.{◌≡◌, ℕ, ◌+◌, ◌-◌, ◌≤◌, min, ◌++◌, length, take, drop, sym, ap, ◌∙◌, inl, inr, append-nil, arith, length-drop, take-take}
use lib.Seq.{take-append-le, take-append-add, drop-append-le}
use Rattle.std.proofs.lemmas.List.{take_rest}
use Rattle.std.proofs.lemmas.Bool.{cases_lt}
use Rattle.readers.specs.Rings.{ring_waiting, ring_view}
use Rattle.readers.specs.declared.ring.RingReader.{RingReader}

-- the bytes from the start to the end, and then those from the front on
opened : (r : RingReader) (n : ℕ) → n ≤ r.count → take n (ring_waiting r) ≡ take n (drop r.start r.buffer.now ++ r.buffer.now)
opened r n h =
    take-take n r.count (drop r.start (r.buffer.now ++ r.buffer.now)) h
    ∙ ap (take n) (drop-append-le r.start r.buffer.now r.buffer.now (omega (arith, r.inside)))

-- those that lie before the end
pub front : (r : RingReader) (n : ℕ) → n ≤ r.count → n + r.start ≤ length r.buffer.now → take n (ring_waiting r) ≡ take n (drop r.start r.buffer.now)
front r n h l = opened r n h ∙ take-append-le n (drop r.start r.buffer.now) r.buffer.now (simp length-drop (omega arith))

-- those that go m past the end
past : (r : RingReader) (m : ℕ) → length r.buffer.now - r.start + m ≤ r.count → take (length r.buffer.now - r.start + m) (ring_waiting r) ≡ drop r.start r.buffer.now ++ take m r.buffer.now
past r m h =
    opened r (length r.buffer.now - r.start + m) h
    ∙ ap (λ n. take (n + m) (drop r.start r.buffer.now ++ r.buffer.now)) (sym (length-drop r.start r.buffer.now))
    ∙ take-append-add (drop r.start r.buffer.now) r.buffer.now m

-- the first n are those in view, and from the buffer's front on as many as there are more
pub both_parts : (r : RingReader) (n : ℕ) → n ≤ r.count → take (min n (ring_view r)) (ring_waiting r) ++ take (n - min n (ring_view r)) r.buffer.now ≡ take n (ring_waiting r)
both_parts r n h = elim (cases_lt (ring_view r) n) [
  | inl more ↦
      let xs = r.buffer.now in
      let end = length xs - r.start in
      let e : min n (ring_view r) ≡ end = omega arith in
      let first : take end (ring_waiting r) ≡ drop r.start xs = front r end (omega arith) (omega (arith, r.inside)) ∙ take_rest xs r.start in
      ap (λ k. take k (ring_waiting r) ++ take (n - k) xs) e
      ∙ ap (λ ys. ys ++ take (n - end) xs) first
      ∙ sym (past r (n - end) (omega arith))
      ∙ ap (λ k. take k (ring_waiting r)) (omega arith)
  | inr all ↦
      let e : min n (ring_view r) ≡ n = omega arith in
      let none : n - n ≡ 0 = omega arith in
      ap (λ k. take k (ring_waiting r) ++ take (n - k) r.buffer.now) e
      ∙ ap (λ k. take n (ring_waiting r) ++ take k r.buffer.now) none
      ∙ append-nil (take n (ring_waiting r))
]
