-- The bytes were there, and the place is behind them.
use Rattle.std.proofs.Common.{◌≡◌, true, leb, length, take, refl, sym, ap, ◌∙◌, le-leb, arith, length-drop}
use Rattle.std.proofs.lemmas.Bool.{cond-true}
use Rattle.format.specs.Refusals.{given}
use Rattle.readers.proofs.slice.SliceReader.take.Goals as goal
use Rattle.readers.specs.Equal.{same_slice}
use Rattle.readers.specs.Slices.{slice_waiting}

pub returns : goal.returns
returns c =
    let r = c.args.self.now in
    let n = c.args.n in
    let found = c.in-Some.ensures.lookup.0 in
    let part : c.in-Some.part.now ≡ take n (slice_waiting r) = found.2 ∙ grind (arith, c.rest-rest.ensures) in
    let fits : leb n (length (slice_waiting r)) ≡ true = le-leb n _ (omega (arith, found.1, ap length c.rest-rest.ensures)) in
    record {
      answers = ap given part ∙ sym (cond-true _ _ _ fits);
      holds = same_slice _ _ refl (omega (arith, found.1, ap length c.rest-rest.ensures, length-drop r.at r.slice.now)) ∙ sym (cond-true _ _ _ fits);
    }
