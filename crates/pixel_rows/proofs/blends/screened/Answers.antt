use Rattle.std.proofs.Common.{arith}
use Rattle.pixel_core.proofs.Sums.{mul_least}
use Rattle.pixel_rows.proofs.blends.screened.Goals as goal

pub overflow_cast-result-4 : goal.overflow_cast-result-4
overflow_cast-result-4 c = omega (arith, mul_least c.args.s c.args.d (omega arith) (omega arith), c.mul.ensures.value)
