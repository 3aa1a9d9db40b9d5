-- When two writers are equal: a fact in a ghost field has one proof, so only what the writer keeps is compared.
use mathlib.Core.HLevel.{is_prop→PathP}
use Rattle.std.specs.Prelude.{◌≡◌, ◌≤◌, length}
use Rattle.std.proofs.Math.Bridge.{le_prop}
use Rattle.std.proofs.Math.Nat.{ℕ_set}
use Rattle.writers.specs.declared.page.PageWriter.{PageWriter}
use Rattle.writers.specs.declared.slice.SliceWriter.{SliceWriter}

pub same_slice : (u v : SliceWriter) → u.slice ≡ v.slice → u.at ≡ v.at → u ≡ v
same_slice u v p q i = record {
  slice = p i;
  at = q i;
  within = is_prop→PathP (λ k. q k ≤ length (p k).now) (λ k. le_prop) u.within v.within i;
}

pub same_page : (u v : PageWriter) → u.page.bytes ≡ v.page.bytes → u.page.len ≡ v.page.len → u ≡ v
same_page u v p q i = record {
  page = record { bytes = p i; len = q i };
  whole = is_prop→PathP (λ k. length (p k) ≡ 256) (λ k. ℕ_set _ _) u.whole v.whole i;
  within = is_prop→PathP (λ k. q k ≤ 256) (λ k. le_prop) u.within v.within i;
}
