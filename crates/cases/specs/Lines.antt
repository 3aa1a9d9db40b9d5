-- What one line holds.
use Rattle.std.specs.Prelude.{ℕ, List, length, replicate, Option}
use Rattle.cases.specs.declared.line.Line.{Line}
use Rattle.elements.specs.Elements.{ElementMeaning, within64}
use Rattle.encoding.specs.Calls.{fronted, fitting}
use Rattle.interfaces.specs.Policies.{PolicyMeaning}

-- these bytes at the front of sixteen zeros, and a claim
abbrev pub laid : List ℕ → Option ℕ → Line
laid bytes c = record { bytes = fronted bytes (replicate 16 0); len = length bytes; claim = c }

-- the pieces of a value's writing that fit sixteen bytes, and its claim
abbrev pub line_of : {A : Type 0} → ElementMeaning A → PolicyMeaning → A → Line
line_of e p v = laid (fitting e p v 16) (within64 (e.claim v))
