use Rattle.std.proofs.Common.{get_or, replicate, arith}
use Rattle.pixel_core.specs.Rgba.{Rgba}
use Rattle.tile_core.specs.Pixels.{Pixels}
use Rattle.job_core.specs.declared.ink.Ink.{Ink}
use Rattle.job_core.specs.Laid.{LeavesAll}
use Rattle.job_core.specs.Points.{spot, LaysJob, LaysPoints}
use Rattle.job_core.proofs.InPlace.{more_some}
use Rattle.job_core.proofs.Runs.{lays_alone}
use Rattle.job_core.proofs.points.PointWork.covering_ink.Goals as goal

pub returns-in-len1 : goal.returns-in-len1
returns-in-len1 c = more_some (λ (ink : Ink). (old : Pixels) (d : Rgba) → LeavesAll ink old d → LaysJob c.self.inside.key (get_or c.self.inside.jobs.now 0 c.index-job-0.result).1 old (replicate 4096 d))
    (λ ink. (old : Pixels) (d : Rgba) → LeavesAll ink old d → LaysPoints c.args.self.now old (replicate 4096 d)) c.covering.result
    (λ ink lays old d leaves. lays_alone (spot c.self.inside.jobs.now c.self.inside.key) c.args.self.now c.index-job-0.result old (replicate 4096 d) c.self.view_is (omega (arith, c.in-len1.len_at_least, c.in-len1.len_below)) c.index-job-0.is (lays old d leaves))
    c.covering.ensures
