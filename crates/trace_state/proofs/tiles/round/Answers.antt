use Rattle.std.proofs.Common.{◌≡◌, [], arith, drop, length, refl, sym, ap, ◌∙◌}
use Rattle.geom_core.specs.Grid.{all_keys_of}
use Rattle.machine_model.specs.Effects.{writes_of}
use Rattle.trace_state.specs.Tiles.{rounded}
use Rattle.std.proofs.lemmas.Option.{slice_get_read}
use Rattle.std.proofs.lemmas.List.{drop_all}
use Rattle.trace_state.proofs.TileSets.{job_round, round_is}
use Rattle.trace_state.proofs.tiles.round.Goals as goal

pub loop-job-preserved : goal.loop-job-preserved
loop-job-preserved c =
    let jobs = c.args.jobs.now in
    job_round jobs c.loop-job.job-index c.job-item.result c.loop-job.round c.round_writes-round.result _ (slice_get_read jobs (length jobs) c.loop-job.job-index c.job-item.result refl c.loop-job-test.true c.job-item.is) c.round_writes-round.ensures c.loop-job.invariant

pub returns : goal.returns
returns c =
    let jobs = c.args.jobs.now in
    let none : drop c.loop-job.job-index jobs ≡ [] = drop_all c.loop-job.job-index jobs (omega arith) in
    ap (λ js. rounded (all_keys_of (writes_of js)) c.loop-job.round) (sym none) ∙ c.loop-job.invariant ∙ round_is jobs
