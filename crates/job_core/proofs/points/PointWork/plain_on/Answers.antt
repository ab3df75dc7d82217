use Rattle.std.specs.Prelude.{replicate}
use Rattle.job_core.specs.Laid.{LeavesAll}
use Rattle.job_core.specs.Points.{LaysPoints}
use Rattle.job_core.proofs.InPlace.{more_some}
use Rattle.job_core.proofs.points.PointWork.plain_on.Goals as goal

pub returns : goal.returns
returns c = more_some (LeavesAll c.in_ok-covering_ink.field-0 c.args.tile.now) (λ d. LaysPoints c.args.self.now c.args.tile.now (replicate 4096 d)) c.on_all.result (c.in_ok-covering_ink.ensures c.args.tile.now) c.on_all.ensures
