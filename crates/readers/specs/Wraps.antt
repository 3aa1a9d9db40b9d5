-- Indices and bytes that go round the end of a buffer.
use Rattle.std.specs.Prelude.{◌≡◌, ℕ, suc, ◌+◌, ◌-◌, ◌<◌, ◌≤◌, min, cond, ◌⊎◌, List, ◌++◌, length, take, drop, nat_lt}
use Rattle.std.proofs.Common.{inl, inr, sym, ap, ◌∙◌, arith, length-take, length-drop, length-append, drop-drop}
use Rattle.std.proofs.Math.Seq.{drop-append-add}
use Rattle.std.proofs.lemmas.List.{drop-take, drop-append-le, take-append-le}
use Rattle.std.proofs.lemmas.Bool.Decides.{leb_tells}

-- an index below twice the size, brought below the size: what is past the end counts from the front
abbrev pub wrapped : ℕ → ℕ → ℕ
wrapped size n = cond (nat_lt n size) n (n - size)

-- an index below the size stays, and any other goes back by the size
pub wrapped_tells : (size n : ℕ) → ((n < size) × (wrapped size n ≡ n)) ⊎ ((size ≤ n) × (wrapped size n ≡ n - size))
wrapped_tells size n = elim (leb_tells (suc n) size) [ inl h ↦ inl (h.1, ap (λ b. cond b n (n - size)) h.0) | inr h ↦ inr (omega (arith, h.1), ap (λ b. cond b n (n - size)) h.0) ]

-- behind k of the count bytes from the start on, the index is in the buffer still
pub wrapped_inside : (size start k count : ℕ) → start ≤ size - 1 → count ≤ size → wrapped size (start + min k count) ≤ size - 1
wrapped_inside size start k count h l = omega (arith, wrapped_tells size (start + min k count))

-- going on by a and then by b is going on by both
wrapped_add : (size s a b : ℕ) → s ≤ size - 1 → a + b ≤ size → wrapped size (wrapped size (s + a) + b) ≡ wrapped size (s + (a + b))
wrapped_add size s a b h l =
    elim (wrapped_tells size (s + a)) [
      | inl t ↦ ap (wrapped size) (omega (arith, t.1))
      | inr t ↦ ap (λ n. wrapped size (n + b)) t.1 ∙ omega (arith, t.0, wrapped_tells size (s + a - size + b), wrapped_tells size (s + (a + b)))
    ]

-- the same with the steps cut to the count bytes that there are
pub wrapped_twice : (size start count a b : ℕ) → start ≤ size - 1 → count ≤ size → a + b ≤ count → wrapped size (wrapped size (start + min a count) + min b (count - a)) ≡ wrapped size (start + min (a + b) count)
wrapped_twice size start count a b h l w =
    let p : min a count ≡ a = omega arith in
    let q : min b (count - a) ≡ b = omega arith in
    let u : min (a + b) count ≡ a + b = omega arith in
    rw (p, q, u) (wrapped_add size start a b h (omega arith))

-- from the start on, around the end, there are count bytes
pub length_around : (xs : List ℕ) (start count : ℕ) → start ≤ length xs - 1 → count ≤ length xs → length (take count (drop start (xs ++ xs))) ≡ count
length_around xs start count h l = simp (length-take, length-drop, length-append) (omega arith)

-- what is left of them once k are gone
pub left_after : (xs : List ℕ) (start count k : ℕ) → start ≤ length xs - 1 → count ≤ length xs → k ≤ count → take (count - k) (drop (wrapped (length xs) (start + min k count)) (xs ++ xs)) ≡ drop k (take count (drop start (xs ++ xs)))
left_after xs start count k h l w =
    let e : min k count ≡ k = omega arith in
    let there : drop k (take count (drop start (xs ++ xs))) ≡ take (count - k) (drop (start + k) (xs ++ xs)) =
    ap (λ n. drop k (take n (drop start (xs ++ xs)))) (omega arith) ∙ drop-take k (count - k) (drop start (xs ++ xs)) ∙ ap (take (count - k)) (drop-drop k start (xs ++ xs)) in
    elim (wrapped_tells (length xs) (start + min k count)) [
      | inl t ↦ ap (λ n. take (count - k) (drop n (xs ++ xs))) (t.1 ∙ ap (λ n. start + n) e) ∙ sym there
      | inr t ↦
          let j : ℕ = start + k - length xs in
          let far : drop (start + k) (xs ++ xs) ≡ drop j xs = ap (λ n. drop n (xs ++ xs)) (omega (arith, t.0)) ∙ drop-append-add xs xs j in
          ap (λ n. take (count - k) (drop n (xs ++ xs))) (t.1 ∙ ap (λ n. start + n - length xs) e)
          ∙ ap (take (count - k)) (drop-append-le j xs xs (omega arith))
          ∙ take-append-le (count - k) (drop j xs) xs (simp length-drop (omega arith))
          ∙ sym (ap (take (count - k)) far)
          ∙ sym there
    ]
