-- An accepted `write`.
use Rattle.std.proofs.Common.{◌≡◌, ℕ, ◌≤◌, leb, List, length, Ok, sym, ap, ◌∙◌, le-leb}
use Rattle.interfaces.specs.Writers.{WriterMeaning, Written, verdict}
use Rattle.std.proofs.lemmas.Bool.{cond-true}

-- the bytes fitted, and the writer has taken them
pub accepted : {W : Type 0} (m : WriterMeaning W) (w w' : W) (bytes : List ℕ) → length bytes ≤ m.free w → w' ≡ m.takes bytes w → Written m w bytes (Ok tt) w'
accepted m w w' bytes h e =
    let fits = le-leb (length bytes) (m.free w) h in
    record {
      answers = ap verdict (sym fits);
      holds = e ∙ sym (cond-true (leb (length bytes) (m.free w)) (m.takes bytes w) w fits);
    }
