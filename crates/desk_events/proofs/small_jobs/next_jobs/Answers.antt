use Rattle.std.proofs.Common.{◌≡◌, true, take, drop, length, ap, ◌∙◌}
use Rattle.doc_model.specs.declared.job.Job.{Job}
use Rattle.doc_model.specs.declared.job.Kind.{Kind}
use Rattle.doc_model.specs.Jobs.{checks}
use Rattle.desk_events.proofs.Barriers.{front_passes}
use Rattle.desk_events.proofs.small_jobs.next_jobs.Goals as goal

pub returns-clause-front : goal.returns-clause-front
returns-clause-front c = c.before_bar.ensures.front ∙ ap (take (length c.before_bar.result.now)) (c.split_at.ensures.back ∙ ap (drop c.args.from) c.head_jobs.ensures.value)

pub returns-clause-checked : goal.returns-clause-checked
returns-clause-checked c = front_passes (λ (j : Kind × Job). checks j.1 ≡ true) c.head_jobs.result.now _ (length c.before_bar.result.now) c.args.from (c.before_bar.ensures.front ∙ ap (take (length c.before_bar.result.now)) c.split_at.ensures.back) c.head_jobs.ensures.checked
