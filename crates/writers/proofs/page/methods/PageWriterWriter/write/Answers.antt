-- `write` of a page writer: the page it leaves is whole, and is the one that the meaning speaks of.
use Rattle.std.proofs.Common.{length, ap, ◌∙◌, arith}
use lib.Seq.{length-sets}
use Rattle.writers.proofs.page.methods.PageWriterWriter.write.Goals as goal
use Rattle.writers.specs.declared.page.Page.{Page}

pub invariant_of-self : goal.invariant_of-self
invariant_of-self c =
    let w = c.args.self.now in
    let size = ap (λ (p : Page). length p.bytes) c.put.ensures in
    let len = ap (λ (p : Page). p.len) c.put.ensures in
    record { whole = size ∙ length-sets w.page.bytes w.page.len c.args.bytes.now ∙ w.whole; within = omega (arith, w.within) }
