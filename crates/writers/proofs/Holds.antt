-- What the writers that keep bytes hold after taking some: what they held, and then those.
use Rattle.std.proofs.Common.{◌≡◌, ℕ, ◌+◌, ◌≤◌, List, ◌++◌, length, take, drop, ap, ◌∙◌, arith, length-append, length-take-le, take_at}
use lib.Seq.{sets, sets-eq, length-sets}
use Rattle.writers.specs.Pages.{page_free, page_holds, page_meaning}
use Rattle.writers.specs.Slices.{slice_free, slice_holds, slice_meaning}
use Rattle.writers.specs.declared.page.PageWriter.{PageWriter}
use Rattle.writers.specs.declared.slice.SliceWriter.{SliceWriter}

-- the front up to what was stored is the front before it, and then what was stored
take_sets : (xs : List ℕ) (i : ℕ) (a : List ℕ) → i + length a ≤ length xs → take (i + length a) (sets xs i a) ≡ take i xs ++ a
take_sets xs i a h =
    ap (take (i + length a)) (sets-eq a xs i h)
    ∙ take_at (take i xs ++ a) (drop (i + length a) xs) (i + length a) (length-append (take i xs) a ∙ ap (λ n. n + length a) (length-take-le i xs (omega arith)))

pub slice_holds_takes : (a : List ℕ) (w : SliceWriter) → length a ≤ slice_free w → slice_holds (slice_meaning.takes a w) ≡ slice_holds w ++ a
slice_holds_takes a w h =
    ap (λ n. take n (sets w.slice.now w.at a)) (omega (arith, w.within, length-sets w.slice.now w.at a))
    ∙ take_sets w.slice.now w.at a (omega (arith, w.within))

pub page_holds_takes : (a : List ℕ) (w : PageWriter) → length a ≤ page_free w → page_holds (page_meaning.takes a w) ≡ page_holds w ++ a
page_holds_takes a w h =
    ap (λ n. take n (sets w.page.bytes w.page.len a)) (omega (arith, w.within))
    ∙ take_sets w.page.bytes w.page.len a (omega (arith, w.whole, w.within))
