use Rattle.std.proofs.Common.{length}
use Rattle.texts.proofs.Checks.{Judged}
use Rattle.texts.proofs.text.check_text.Given as goal

-- the bytes before the rest are text
abbrev pub invariant-loop-rest : goal.invariant-loop-rest
invariant-loop-rest l = Judged l.bytes l.rest

abbrev pub decreases-loop-rest : goal.decreases-loop-rest
decreases-loop-rest l = length l.rest
