use Rattle.std.proofs.Common.{◌≡◌, true, ◌&&◌, sym, subst}
use Rattle.std.proofs.lemmas.List.Elements.{All-get_or}
use Rattle.doc_model.specs.Jobs.{checks}
use Rattle.doc_model.specs.Lawful.{within_limits}
use Rattle.doc_model.specs.declared.command.Command.TheVariants as command
use Rattle.doc_model.specs.declared.job.Job.{Job}
use Rattle.doc_model.specs.declared.job.Kind.TheVariants.{Con}
use Rattle.machine_model.specs.Event.{Feed}
use Rattle.machine_model.specs.Step.{Step}
use Rattle.desk_events.proofs.StepCounts.{on_err}
use Rattle.host_desk.proofs.FedJobs.{fed_front, fed_more, next_follows}
use Rattle.host_desk.proofs.feeding.feed_all.Goals as goal

pub feed-requires-clause-lawful : goal.feed-requires-clause-lawful
feed-requires-clause-lawful c =
    let sound : (checks c.job-item.result && within_limits c.job-item.result) ≡ true = subst (λ (j : Job). (checks j && within_limits j) ≡ true) (sym c.job-item.is) (All-get_or (λ (j : Job). (checks j && within_limits j) ≡ true) c.args.jobs.now c.loop-job.job-index c.job-item.result c.loop-job-test.true c.requires.sound) in
    next_follows c.args.desk.now c.loop-job.desk c.args.no c.args.jobs.now c.loop-job.job-index c.job-item.result c.loop-job-test.true sound c.loop-job.invariant

pub returns-in_err-feed-clause-err : goal.returns-in_err-feed-clause-err
returns-in_err-feed-clause-err c = on_err c.from_residual.result (fed_front c.args.desk.now c.loop-job.desk c.feed.new.self c.args.no c.args.jobs.now c.loop-job.job-index c.loop-job-test.true c.in_err-feed.ensures.err c.loop-job.invariant)

pub loop-job-preserved : goal.loop-job-preserved
loop-job-preserved c =
    fed_more c.args.desk.now c.loop-job.desk c.feed.new.self c.args.no c.args.jobs.now c.loop-job.job-index c.job-item.result c.loop-job-test.true
    (subst (λ (j : Job). Step c.loop-job.desk (Feed (command.Add c.args.no Con j)) c.feed.new.self) c.job-item.is c.in_ok-feed.ensures.ok)
    c.loop-job.invariant
