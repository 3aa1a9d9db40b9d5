-- What a page writer means.
use Rattle.std.proofs.Common.{ap, ◌∙◌, arith, length-append}
use Rattle.std.specs.Prelude.{ℕ, ◌+◌, ◌-◌, min, List, length, take, refl}
use Rattle.std.proofs.lemmas.List.Edits.{sets}
use Rattle.std.proofs.Math.Seq.{length-sets}
use Rattle.interfaces.specs.Writers.{WriterMeaning, WriterLaws}
use Rattle.writers.specs.Equal.{same_page}
use Rattle.writers.specs.Stored.{sets_append}
use Rattle.writers.specs.declared.page.Page.{Page}
use Rattle.writers.specs.declared.page.PageWriter.{PageWriter}

-- the page with the bytes stored behind those that are written
abbrev pub added : List ℕ → Page → Page
added a p = record { bytes = sets p.bytes p.len a; len = p.len + length a }

-- how many bytes are free: 256 less those that are written
abbrev pub page_free : PageWriter → ℕ
page_free w = 256 - w.page.len

-- what it holds: the bytes of the page that are written
abbrev pub page_holds : PageWriter → List ℕ
page_holds w = take w.page.len w.page.bytes

-- the writer after taking bytes: they are added to its page. Of bytes that do not fit, as many as do are added.
abbrev pub page_takes : List ℕ → PageWriter → PageWriter
page_takes a w = record {
  page = record { bytes = (added a w.page).bytes; len = min (added a w.page).len 256 };
  whole = length-sets w.page.bytes w.page.len a ∙ w.whole;
  within = omega arith;
}

-- a page writer, by these two
abbrev pub page_meaning : WriterMeaning PageWriter
page_meaning = record { free = page_free; takes = page_takes }

-- nothing, two in a row, and the free count: under the premises no place is cut to 256
pub page_laws : WriterLaws page_meaning
page_laws = record {
  nothing = λ w. same_page _ _ refl (omega (arith, w.within));
  joins = λ a b w h. let xs = w.page.bytes in let i = w.page.len in
      same_page _ _
      (ap (λ n. sets (sets xs i a) n b) (omega (arith, w.within)) ∙ sets_append xs i a b)
      (omega (arith, w.within, length-append a b));
  falls = λ a w h. omega (arith, w.within);
}
