use Rattle.std.proofs.Common.{get_or}
use Rattle.interfaces.proofs.Doing.{did_then}
use Rattle.readings.proofs.Chars.{after_first_within}
use Rattle.readings.proofs.Charges.{taking_within}
use Rattle.readings.specs.Chars.{after_first}
use Rattle.texts.proofs.scalar.decode_char.Goals as goal

-- the first byte, and then what it tells
pub returns : goal.returns
returns g c = did_then g.met.D.R.Reader.laws (λ bs. after_first (get_or bs 0 0)) (taking_within 1) (λ bs. after_first_within (get_or bs 0 0)) c.in_ok-read.ensures.did c.decode_after.ensures
