use Rattle.std.proofs.Common.{arith, ap, ◌∙◌}
use Rattle.doc_model.specs.declared.job.Job.{Job}
use Rattle.doc_model.specs.declared.job.Kind.{Kind}
use Rattle.doc_model.specs.Jobs.{writes}
use Rattle.desk_events.proofs.Barriers.{round_one, round_more, round_all}
use Rattle.desk_events.proofs.small_jobs.bound_of.Goals as goal

pub loop-entry-init : goal.loop-entry-init
loop-entry-init c = round_one c.args.jobs.now 0 c.index-jobs-0.result c.written-bound.result c.requires.some c.index-jobs-0.is c.requires.limits
    (ap (λ (j : Kind × Job). writes j.1) c.index-jobs-0.is ∙ c.written-bound.ensures)

pub loop-entry-preserved : goal.loop-entry-preserved
loop-entry-preserved c = round_more c.args.jobs.now c.loop-entry.entry-index c.entry-item.result c.written.result c.loop-entry-test.true c.entry-item.is c.requires.limits c.written.ensures
    c.loop-entry.bound c.bound-bound.result c.bound-bound.ensures c.loop-entry.invariant

pub returns : goal.returns
returns c = round_all c.args.jobs.now c.loop-entry.entry-index c.loop-entry.bound (omega arith) c.loop-entry.invariant
