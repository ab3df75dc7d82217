use Rattle.script_text.proofs.PathLines.{JobsAdded}
use Rattle.script_text.proofs.draft.Draft.add_jobs.Given as goal

-- the jobs so far are added
abbrev pub invariant-loop-job : goal.invariant-loop-job
invariant-loop-job l = JobsAdded l.initial.self l.self l.no l.jobs l.job-index
