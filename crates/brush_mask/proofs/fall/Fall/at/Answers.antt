use Rattle.std.proofs.Common.{arith}
use Rattle.brush_mask.proofs.Falling.{quotient_byte}
use Rattle.brush_mask.proofs.fall.Fall.at.Goals as goal

pub overflow_cast-result-4 : goal.overflow_cast-result-4
overflow_cast-result-4 c = omega (arith, c.args.self.exact c.args.n c.requires, quotient_byte c.args.self.whole c.args.n c.requires)
