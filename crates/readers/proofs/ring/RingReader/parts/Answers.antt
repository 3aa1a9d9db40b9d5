-- Two parts that are the first bytes that wait.
use Rattle.std.proofs.Common.{◌≡◌, ◌-◌, ◌++◌, take, ap, ◌∙◌, arith, take-take}
use Rattle.readers.proofs.Rounds.{both_parts}
use Rattle.readers.proofs.ring.RingReader.parts.Goals as goal
use Rattle.readers.specs.Rings.{ring_waiting, ring_view}

pub returns-clause-value : goal.returns-clause-value
returns-clause-value c =
    let r = c.args.self.now in
    let n = c.args.n in
    let first = c.min-first.result in
    let front : take first c.view-view.result.now ≡ take first (ring_waiting r) = ap (take first) c.view-view.ensures.value ∙ take-take first (ring_view r) (ring_waiting r) (omega arith) in
    ap (λ xs. xs ++ take (n - first) r.buffer.now) front
    ∙ ap (λ k. take k (ring_waiting r) ++ take (n - k) r.buffer.now) (omega arith)
    ∙ both_parts r n c.requires
