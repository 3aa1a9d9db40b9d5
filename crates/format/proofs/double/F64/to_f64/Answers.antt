-- `F64::to_f64` meets its contract.
use Rattle.std.proofs.Common.{arith}
use Rattle.std.proofs.lemmas.Bool.Decides.{not_from_Decides}
use Rattle.format.proofs.Doubles.{no_nan, same_number}
use Rattle.format.proofs.double.F64.to_f64.Goals as goal

pub float_from_bits-result : goal.float_from_bits-result
float_from_bits-result c = no_nan c.args.self.bits (not_from_Decides c.is_nan.result c.is_nan.ensures c.if-is_nan.false)

pub returns : goal.returns
returns c = (not_from_Decides c.is_nan.result c.is_nan.ensures c.if-is_nan.false, same_number c.args.self.bits (omega arith))
