use Rattle.desk_events.proofs.Barriers.{lays_run}
use Rattle.desk_events.proofs.small_jobs.lay_run.Goals as goal

pub returns-clause-some : goal.returns-clause-some
returns-clause-some c = lays_run c.args.jobs.now c.in-Some.work (record { count = c.job_count.result; key = c.key.result }) c.args.store.now c.paint.new.self c.in-Some.ensures c.job_count.ensures c.key.ensures.value c.key.ensures.known c.in_ok-paint.ensures.ok
