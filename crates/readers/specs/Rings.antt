-- What a ring reader means, and what its calls leave.
use Rattle.std.specs.Prelude.{◌≡◌, ℕ, ◌+◌, ◌-◌, min, Bool, cond, ◌&&◌, List, [], ◌++◌, length, take, drop, MatchBool, Result, nat_le, refl}
use Rattle.std.proofs.Common.{arith}
use Rattle.std.specs.Borrow.{Bor}
use Rattle.format.specs.Refusals.{Answer, answer, given, refused, refusal, ring_refusal}
use Rattle.format.specs.declared.error.RingError.{RingError}
use Rattle.interfaces.specs.Readers.{ReaderMeaning, ReaderLaws}
use Rattle.readers.specs.Equal.{same_ring}
use Rattle.readers.specs.Wraps.{wrapped, wrapped_tells, wrapped_inside, wrapped_twice, left_after, length_around}
use Rattle.readers.specs.declared.ring.RingReader.{RingReader}

-- a ring reader over this buffer, with this start and this count
pub record Ring (r : RingReader) (buffer : Bor (List ℕ)) (start count : ℕ) : Type 0 where
  pub buffer_is : r.buffer ≡ buffer
  pub start_is : r.start ≡ start
  pub count_is : r.count ≡ count

-- whether a start and a count fit a buffer: the start is below the length, or 0 where the length is 0, and the count is at most the length
abbrev pub fits : List ℕ → ℕ → ℕ → Bool
fits xs start count = nat_le start (length xs - 1) && nat_le count (length xs)

-- what is answered where it is known whether they fit
abbrev pub fill_verdict : Bool → Answer Unit
fill_verdict good = cond good (given tt) (refused (refusal 11 []))

-- `fill` puts the start and the count in the place of the old ones if they fit the buffer, and else refuses and changes nothing
pub record Filled (r : RingReader) (start count : ℕ) (res : Result Unit RingError) (r' : RingReader) : Type 0 where
  pub answers : answer ring_refusal (λ u. u) res ≡ fill_verdict (fits r.buffer.now start count)
  pub holds : MatchBool (fits r.buffer.now start count) (Ring r' r.buffer start count) (r' ≡ r)

-- the bytes that wait: count bytes from the start on, in the buffer with its own bytes once more behind it
abbrev pub ring_waiting : RingReader → List ℕ
ring_waiting r = take r.count (drop r.start (r.buffer.now ++ r.buffer.now))

-- how many can be seen at once: those that lie before the buffer's end
abbrev pub ring_view : RingReader → ℕ
ring_view r = min r.count (length r.buffer.now - r.start)

-- the reader after k bytes go: the start is k bytes further on, around the end, and the count is k less. Of more bytes than wait, those that wait go.
abbrev pub ring_gone : ℕ → RingReader → RingReader
ring_gone k r = record {
  buffer = r.buffer;
  start = wrapped (length r.buffer.now) (r.start + min k r.count);
  count = r.count - k;
  inside = wrapped_inside (length r.buffer.now) r.start k r.count r.inside r.enough;
  enough = omega (arith, r.enough);
}

-- a ring reader, by these
abbrev pub ring_reader : ReaderMeaning RingReader
ring_reader = record { waiting = ring_waiting; view = ring_view; gone = ring_gone }

-- as many bytes wait as it counts
pub length_waiting : (r : RingReader) → length (ring_waiting r) ≡ r.count
length_waiting r = length_around r.buffer.now r.start r.count r.inside r.enough

-- the view, none going, what waits behind those that go, and two in a row
pub ring_reader_laws : ReaderLaws ring_reader
ring_reader_laws = record {
  within = λ r. rw (length_waiting r) (omega arith);
  nothing = λ r. same_ring _ _ refl (omega (arith, r.inside, r.enough, wrapped_tells (length r.buffer.now) (r.start + min 0 r.count))) (omega arith);
  leaves = λ k r h. left_after r.buffer.now r.start r.count k r.inside r.enough (omega (arith, h, length_waiting r));
  adds = λ a b r h. same_ring _ _ refl (wrapped_twice (length r.buffer.now) r.start r.count a b r.inside r.enough (omega (arith, h, length_waiting r))) (omega arith);
}
