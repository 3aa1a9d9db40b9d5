-- What an answer of `fill` says of the ring reader.
use Rattle.std.proofs.Common.{◌≡◌, ℕ, Bool, true, false, List, ◌++◌, take, drop, Ok, Err, refl, ap, ◌∙◌, Bor}
use Rattle.format.specs.Refusals.{given, refused, ring_refusal}
use Rattle.format.specs.declared.error.RingError.{RingError}
use Rattle.std.proofs.lemmas.Bool.Decides.{when_true, when_false}
use Rattle.readers.specs.Rings.{Ring, Filled, fits, fill_verdict, ring_waiting}
use Rattle.readers.specs.declared.ring.RingReader.{RingReader}

-- an accepted answer says that the start and the count fit, and a refused one that they do not
fits_from : (b : Bool) (u : Unit) → given u ≡ fill_verdict b → b ≡ true
fits_from true u e = refl
fits_from false u e = cc

bad_from : (b : Bool) (x : RingError) → refused (ring_refusal x) ≡ fill_verdict b → b ≡ false
bad_from true x e = cc
bad_from false x e = refl

module _ {r r' : RingReader} {start count : ℕ} where
  -- after an accepted call it has this start and this count
  pub fill_accepted : {u : Unit} → Filled r start count (Ok u) r' → Ring r' r.buffer start count
  fill_accepted {u} f = when_true _ _ (fits_from (fits r.buffer.now start count) u f.answers) f.holds

  -- after a refused one it is as it was
  pub fill_refused : {x : RingError} → Filled r start count (Err x) r' → r' ≡ r
  fill_refused {x} f = when_false _ _ (bad_from (fits r.buffer.now start count) x f.answers) f.holds

-- the bytes that wait, by the buffer, the start and the count
pub waiting_from : {r : RingReader} {buffer : Bor (List ℕ)} {start count : ℕ} → Ring r buffer start count → ring_waiting r ≡ take count (drop start (buffer.now ++ buffer.now))
waiting_from {r} {buffer} {start} {count} h =
    ap (λ n. take n (drop r.start (r.buffer.now ++ r.buffer.now))) h.count_is
    ∙ ap (λ n. take count (drop n (r.buffer.now ++ r.buffer.now))) h.start_is
    ∙ ap (λ (b : Bor (List ℕ)). take count (drop start (b.now ++ b.now))) h.buffer_is
