use Rattle.std.proofs.Common.{◌≡◌, length, ap, arith}
use Rattle.job_core.specs.Points.{Spot, spot}
use Rattle.job_core.proofs.Runs.{lays_more, lays_all}
use Rattle.job_core.proofs.points.PointWorkLays.lay.Goals as goal

pub loop-entry-preserved : goal.loop-entry-preserved
loop-entry-preserved c = lays_more (spot c.self.inside.jobs.now c.self.inside.key) c.args.self.now c.loop-entry.entry-index c.entry-item.result c.args.tile.now c.loop-entry.tile c.lay_job.new.tile
    c.self.view_is c.loop-entry-test.true c.entry-item.is c.lay_job.ensures c.loop-entry.invariant

pub returns : goal.returns
returns c =
    let many : length c.self.inside.jobs.now ≡ length c.args.self.now.jobs = ap (λ (w : Spot). length w.jobs) c.self.view_is in
    lays_all c.args.self.now c.loop-entry.entry-index c.args.tile.now c.loop-entry.tile (omega (arith, many, c.loop-entry-test.false)) c.loop-entry.invariant
