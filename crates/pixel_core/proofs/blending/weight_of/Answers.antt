use Rattle.std.proofs.Common.{arith}
use Rattle.pixel_core.proofs.Sums.{weight_most}
use Rattle.pixel_core.proofs.blending.weight_of.Goals as goal

pub returns-clause-small : goal.returns-clause-small
returns-clause-small c = weight_most c.args.sa c.args.da (omega arith) (omega arith)
