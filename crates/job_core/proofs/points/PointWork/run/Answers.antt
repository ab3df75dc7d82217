use Rattle.std.proofs.Common.{ap, length, ◌∙◌}
use Rattle.std.specs.List.{take_while}
use Rattle.geom_core.specs.Areas.{Area}
use Rattle.job_core.specs.Points.{is_within}
use Rattle.job_core.proofs.Runs.{run_jobs, run_is}
use Rattle.job_core.proofs.points.PointWork.run.Goals as goal

pub new-requires-clause-each : goal.new-requires-clause-each
new-requires-clause-each c = run_jobs c.first_tile-key.result c.args.jobs.now c.count_within-count.result
    (c.count_within-count.ensures.value ∙ ap (λ (a : Area). length (take_while (λ j. is_within a j.1) c.args.jobs.now)) c.rect.ensures) c.requires.checked c.requires.limits

pub returns : goal.returns
returns c = run_is c.first_tile-key.result c.args.jobs.now c.count_within-count.result c.new.result
    (c.count_within-count.ensures.value ∙ ap (λ (a : Area). length (take_while (λ j. is_within a j.1) c.args.jobs.now)) c.rect.ensures) c.if-count-eq0.false c.new.ensures
