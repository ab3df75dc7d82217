use Rattle.desk_events.proofs.Barriers.{front_is, front_clear}
use Rattle.desk_events.proofs.small_jobs.before_bar.Goals as goal

pub returns-clause-front : goal.returns-clause-front
returns-clause-front c = front_is c.args.jobs.now _ c.count_before_bar.result c.split_at.ensures.front c.split_at.ensures.front_len

pub returns-clause-clear : goal.returns-clause-clear
returns-clause-clear c = front_clear c.args.jobs.now _ c.count_before_bar.result c.split_at.ensures.front c.count_before_bar.ensures.clear
