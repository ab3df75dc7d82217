use Rattle.std.proofs.Common.{arith}
use Rattle.pixel_rows.proofs.Weights.{cover_is}
use Rattle.pixel_rows.proofs.mixing.Parts.new.Goals as goal

pub returns-clause-backdrop : goal.returns-clause-backdrop
returns-clause-backdrop c = omega (arith, cover_is c.args.sa c.args.da (omega arith) (omega arith))

pub returns-clause-cover : goal.returns-clause-cover
returns-clause-cover c = cover_is c.args.sa c.args.da (omega arith) (omega arith)
