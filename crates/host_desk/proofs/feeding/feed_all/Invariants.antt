use Rattle.host_desk.proofs.FedJobs.{HasFed}
use Rattle.host_desk.proofs.feeding.feed_all.Given as goal

-- the jobs so far are fed
abbrev pub invariant-loop-job : goal.invariant-loop-job
invariant-loop-job l = HasFed l.initial.desk l.desk l.no l.jobs l.job-index
