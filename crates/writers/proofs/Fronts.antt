-- What a caller's buffer holds once a slice writer that started at its front has ended.
use Rattle.std.proofs.Common.{◌≡◌, ℕ, ◌<◌, ◌≤◌, leb, List, ◌++◌, length, drop, Ok, Err, Result, sym, refl, ap, ◌∙◌, subst, arith, MutBor, le-leb}
use borrow.Author.Tests.{lt-leb}
use lib.Seq.{sets-eq, length-sets}
use Rattle.format.specs.Refusals.{given, refused, answer, encode_refusal}
use Rattle.format.specs.declared.error.EncodeError.{EncodeError}
use Rattle.interfaces.proofs.Leading.{leading_all, leading_fits}
use Rattle.format.specs.Pieces.{joined}
use Rattle.interfaces.specs.Pieces.{leading, Offered}
use Rattle.interfaces.specs.Writers.{Written, verdict}
use Rattle.std.proofs.lemmas.Bool.{cond-true, cond-false}
use Rattle.std.proofs.lemmas.Bool.Decides.{nat_tests}
use Rattle.writers.specs.Slices.{slice_start, slice_free, slice_meaning}
use Rattle.writers.specs.declared.slice.SliceWriter.{SliceWriter}

-- the writer is over the buffer s still, whose front now is the bytes and whose other bytes are as they were; and it has counted the bytes
pub record Front (s : MutBor (List ℕ)) (w : SliceWriter) (bytes : List ℕ) : Type 0 where
  pub fits : length bytes ≤ length s.now
  pub same : w.slice.ghost_name ≡ s.ghost_name
  pub holds : w.slice.now ≡ bytes ++ drop (length bytes) s.now
  pub count : w.at ≡ length bytes

-- the bytes did not fit, and the buffer is as it was
pub record Untouched (s : MutBor (List ℕ)) (w : SliceWriter) (bytes : List ℕ) : Type 0 where
  pub full : length s.now < length bytes
  pub same : w.slice.ghost_name ≡ s.ghost_name
  pub holds : w.slice.now ≡ s.now
  pub count : w.at ≡ 0

-- what an answer says of the bytes: they fit, or they do not
fits_from : (n m : ℕ) (u : Unit) → given u ≡ verdict (leb n m) → n ≤ m
fits_from n m u e = grind (arith, nat_tests)

full_from : (n m : ℕ) (x : EncodeError) → refused (encode_refusal x) ≡ verdict (leb n m) → m < n
full_from n m x e = grind (arith, nat_tests)

-- the writer that starts at the front, and what is free to it
front_start : (s : MutBor (List ℕ)) (a : List ℕ) → length a ≤ length s.now → Front s (slice_meaning.takes a (slice_start s)) a
front_start s a h = record {
  fits = h;
  same = refl;
  holds = sets-eq a s.now 0 (omega arith) ∙ ap (λ n. a ++ drop n s.now) (omega arith);
  count = omega (arith, length-sets s.now 0 a);
}

-- all of the buffer is free at first
pub free_start : {s : MutBor (List ℕ)} {u : SliceWriter} → u ≡ slice_start s → slice_free u ≡ length s.now
free_start start = ap slice_free start ∙ omega arith

module _ {s : MutBor (List ℕ)} {u v : SliceWriter} (start : u ≡ slice_start s) where
  -- bytes that fit were taken
  pub front_takes : (a : List ℕ) → length a ≤ length s.now → v ≡ slice_meaning.takes a u → Front s v a
  front_takes a h e = subst (λ (w : SliceWriter). Front s w a) (sym (e ∙ ap (slice_meaning.takes a) start)) (front_start s a h)

  -- an accepted `write`
  pub front_written : {a : List ℕ} {r : Result Unit EncodeError} {x : Unit} → Written slice_meaning u a r v → r ≡ Ok x → Front s v a
  front_written {a} {r} {x} w ok =
      let fits : length a ≤ slice_free u = fits_from (length a) (slice_free u) x (ap (answer encode_refusal (λ u. u)) (sym ok) ∙ w.answers) in
      front_takes a (omega (arith, free_start start)) (w.holds ∙ cond-true (leb (length a) (slice_free u)) (slice_meaning.takes a u) u (le-leb (length a) (slice_free u) fits))

  -- a refused `write`
  pub front_refused : {a : List ℕ} {r : Result Unit EncodeError} {x : EncodeError} → Written slice_meaning u a r v → r ≡ Err x → Untouched s v a
  front_refused {a} {r} {x} w err =
      let full : slice_free u < length a = full_from (length a) (slice_free u) x (ap (answer encode_refusal (λ u. u)) (sym err) ∙ w.answers) in
      let left = w.holds ∙ cond-false (leb (length a) (slice_free u)) (slice_meaning.takes a u) u (lt-leb (length a) (slice_free u) full) ∙ start in
      subst (λ (t : SliceWriter). Untouched s t a) (sym left) (record { full = omega (arith, free_start start); same = refl; holds = refl; count = refl })

  -- pieces that were offered: the front is those before the first that did not fit
  pub front_offered : {ps : List (List ℕ)} {r : Result Unit EncodeError} → Offered slice_meaning u ps r v → Front s v (joined (leading (length s.now) ps))
  front_offered {ps} {r} o =
      front_takes (joined (leading (length s.now) ps)) (leading_fits (length s.now) ps) (o.holds ∙ ap (λ n. slice_meaning.takes (joined (leading n ps)) u) (free_start start))

  -- pieces that were all accepted
  pub front_all : {ps : List (List ℕ)} {r : Result Unit EncodeError} {x : Unit} → Offered slice_meaning u ps r v → r ≡ Ok x → Front s v (joined ps)
  front_all {ps} {r} {x} o ok =
      let fits : length (joined ps) ≤ slice_free u = fits_from (length (joined ps)) (slice_free u) x (ap (answer encode_refusal (λ u. u)) (sym ok) ∙ o.answers) in
      front_takes (joined ps) (omega (arith, free_start start)) (o.holds ∙ ap (λ qs. slice_meaning.takes (joined qs) u) (leading_all (slice_free u) ps fits))
