use Rattle.std.proofs.Common.{arith}
use Rattle.std.proofs.lemmas.Bool.Decides.{nat_tests}
use Rattle.job_core.proofs.InPlace.{covered}
use Rattle.job_core.proofs.points.covers.Goals as goal

pub returns-then-w-eq64 : goal.returns-then-w-eq64
returns-then-w-eq64 c h = covered c.args.rect.now c.part_in-part.result c.args.key c.part_in-part.ensures (omega arith) (grind (arith, nat_tests))
