-- What a slice writer means.
use Rattle.std.proofs.Common.{ap, ◌∙◌, arith, zero-le, length-append}
use Rattle.std.specs.Prelude.{◌≡◌, ℕ, ◌+◌, ◌-◌, ◌≤◌, min, List, ◌++◌, length, take, refl}
use denote.Ref.{MutBor, at_last}
use Rattle.std.proofs.lemmas.List.Edits.{sets}
use Rattle.std.proofs.Math.Seq.{length-sets}
use Rattle.interfaces.specs.Writers.{WriterMeaning, WriterLaws}
use Rattle.writers.specs.Equal.{same_slice}
use Rattle.writers.specs.Stored.{sets_append}
use Rattle.writers.specs.declared.slice.SliceWriter.{SliceWriter}

-- the writer that starts at the front of a buffer
abbrev pub slice_start : MutBor (List ℕ) → SliceWriter
slice_start s = record { slice = s; at = 0; within = zero-le }

-- how many bytes are free: those of the buffer from its place on
abbrev pub slice_free : SliceWriter → ℕ
slice_free w = length w.slice.now - w.at

-- what it holds: the bytes of the buffer up to its place
abbrev pub slice_holds : SliceWriter → List ℕ
slice_holds w = take w.at w.slice.now

-- the writer over the same buffer, but with these bytes in it and this place, or the end where the place is past it
abbrev pub slice_with : SliceWriter → List ℕ → ℕ → SliceWriter
slice_with w xs n = record { slice = at_last w.slice xs; at = min n (length xs); within = let h : min n (length xs) ≤ length xs = omega arith in h }

-- taking bytes stores them in the buffer from the place on, and moves the place behind them. Of bytes that do not fit, as many as do are stored.
abbrev pub slice_meaning : WriterMeaning SliceWriter
slice_meaning = record {
  free = slice_free;
  takes = λ a w. slice_with w (sets w.slice.now w.at a) (w.at + length a);
}

-- nothing, two in a row, and the free count: the buffer keeps its length
pub slice_laws : WriterLaws slice_meaning
slice_laws = record {
  nothing = λ w. same_slice _ _ refl (omega (arith, w.within));
  joins = λ a b w h. let xs = w.slice.now in let i = w.at in
      let place : min (i + length a) (length (sets xs i a)) ≡ i + length a = omega (arith, w.within, length-sets xs i a) in
      let stored : sets (sets xs i a) (min (i + length a) (length (sets xs i a))) b ≡ sets xs i (a ++ b) = ap (λ n. sets (sets xs i a) n b) place ∙ sets_append xs i a b in
      same_slice _ _ (ap (at_last w.slice) stored) (ap (λ ys. min (min (i + length a) (length (sets xs i a)) + length b) (length ys)) stored ∙ ap (λ n. min n (length (sets xs i (a ++ b)))) (omega (arith, length-append a b)));
  falls = λ a w h. omega (arith, w.within, length-sets w.slice.now w.at a);
}
