use Rattle.std.proofs.Common.{arith}
use Rattle.pixel_core.proofs.Sums.{mul_most, mul_least}
use Rattle.pixel_core.proofs.blending.blend_of.Goals as goal

pub overflow_sub-result : goal.overflow_sub-result
overflow_sub-result c = omega (arith, mul_most c.args.s c.args.d (omega arith) (omega arith), c.mul-in-Screen.ensures.value)

pub overflow_cast-result-in-Screen-3 : goal.overflow_cast-result-in-Screen-3
overflow_cast-result-in-Screen-3 c = omega (arith, mul_least c.args.s c.args.d (omega arith) (omega arith), c.mul-in-Screen.ensures.value)
