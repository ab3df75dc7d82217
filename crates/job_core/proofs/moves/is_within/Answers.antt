use Rattle.std.proofs.Common.{◌≡◌, arith}
use Rattle.std.proofs.lemmas.Bool.Decides.{nat_tests}
use Rattle.job_core.proofs.MoveValues.{within_other}
use Rattle.job_core.proofs.moves.is_within.Goals as goal

pub returns-then-w : goal.returns-then-w
returns-then-w c = λ t.
    let e : c.h.result ≡ c.h-then-w.result = grind (arith, nat_tests) in
    within_other c.args.rect.now c.args.other.now c.in-Some.common c.in-Some.ensures.shared (omega arith) (omega arith)
