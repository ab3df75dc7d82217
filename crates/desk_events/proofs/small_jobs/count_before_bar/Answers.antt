use Rattle.std.proofs.Common.{sym, ap, ◌∙◌}
use Rattle.doc_model.specs.declared.job.Job.{Job}
use Rattle.doc_model.specs.declared.job.Kind.{Kind}
use Rattle.machine_model.specs.Guards.{is_bar}
use Rattle.desk_events.proofs.Barriers.{no_bar_more}
use Rattle.desk_events.proofs.small_jobs.count_before_bar.Goals as goal

pub loop-i-preserved : goal.loop-i-preserved
loop-i-preserved c = no_bar_more c.args.jobs.now c.loop-i.i c.index-jobs-i.result c.index-jobs-i.is (ap (λ (y : Kind × Job). is_bar y.0) c.index-jobs-i.is ∙ sym c.is_bar.ensures ∙ c.if-is_bar.false) c.loop-i.invariant
