use Rattle.std.proofs.Common.{arith}
use Rattle.brush_mask.proofs.Falling.{quotient_byte}
use Rattle.brush_mask.proofs.fall.Fall.narrow_at.Goals as goal

pub overflow_cast-result-2 : goal.overflow_cast-result-2
overflow_cast-result-2 c = omega (arith, c.args.self.exact c.args.n c.requires.within, quotient_byte c.args.self.whole c.args.n c.requires.within)
