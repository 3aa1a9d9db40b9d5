-- What a slice reader means.
use Rattle.std.specs.Prelude.{◌≡◌, ℕ, ◌+◌, min, List, length, drop, refl}
use Rattle.std.proofs.Common.{sym, ap, ◌∙◌, arith, zero-le, length-drop, drop-drop}
use Rattle.std.specs.Borrow.{Bor}
use Rattle.interfaces.specs.Readers.{ReaderMeaning, ReaderLaws}
use Rattle.readers.specs.Equal.{same_slice}
use Rattle.readers.specs.declared.slice.SliceReader.{SliceReader}

-- the reader that starts at the front of the bytes
abbrev pub slice_front : Bor (List ℕ) → SliceReader
slice_front s = record { slice = s; at = 0; within = zero-le }

-- the bytes that wait: those from its place on
abbrev pub slice_waiting : SliceReader → List ℕ
slice_waiting r = drop r.at r.slice.now

-- how many can be seen at once: all that wait
abbrev pub slice_view : SliceReader → ℕ
slice_view r = length (slice_waiting r)

-- the reader over the same bytes, but with this place, or the end where the place is past it
abbrev pub slice_at : SliceReader → ℕ → SliceReader
slice_at r n = record { slice = r.slice; at = min n (length r.slice.now); within = omega arith }

-- a slice reader, by these; k bytes going moves the place behind them. Of more bytes than wait, those that wait go.
abbrev pub slice_reader : ReaderMeaning SliceReader
slice_reader = record {
  waiting = slice_waiting;
  view = slice_view;
  gone = λ k r. slice_at r (r.at + k);
}

-- the view, none going, what waits behind those that go, and two in a row: all are sums of places
pub slice_reader_laws : ReaderLaws slice_reader
slice_reader_laws = record {
  within = λ r. omega arith;
  nothing = λ r. same_slice _ _ refl (omega (arith, r.within));
  leaves = λ k r h. let at : min (r.at + k) (length r.slice.now) ≡ r.at + k = omega (arith, h, length-drop r.at r.slice.now) in ap (λ n. drop n r.slice.now) at ∙ sym (drop-drop k r.at r.slice.now);
  adds = λ a b r h. same_slice _ _ refl (omega (arith, h, length-drop r.at r.slice.now));
}
