-- When two readers are equal: a fact in a ghost field has one proof, so only what the reader keeps is compared.
use mathlib.Core.HLevel.{is_prop→PathP}
use Rattle.std.specs.Prelude.{◌≡◌, ◌-◌, ◌≤◌, length}
use Rattle.std.proofs.Math.Bridge.{le_prop}
use Rattle.readers.specs.declared.ring.RingReader.{RingReader}
use Rattle.readers.specs.declared.slice.SliceReader.{SliceReader}

pub same_slice : (r s : SliceReader) → r.slice ≡ s.slice → r.at ≡ s.at → r ≡ s
same_slice r s p q i = record {
  slice = p i;
  at = q i;
  within = is_prop→PathP (λ k. q k ≤ length (p k).now) (λ k. le_prop) r.within s.within i;
}

pub same_ring : (r s : RingReader) → r.buffer ≡ s.buffer → r.start ≡ s.start → r.count ≡ s.count → r ≡ s
same_ring r s p q e i = record {
  buffer = p i;
  start = q i;
  count = e i;
  inside = is_prop→PathP (λ k. q k ≤ length (p k).now - 1) (λ k. le_prop) r.inside s.inside i;
  enough = is_prop→PathP (λ k. e k ≤ length (p k).now) (λ k. le_prop) r.enough s.enough i;
}
