use Rattle.desk_events.proofs.Barriers.{IsRoundFirst}
use Rattle.desk_events.proofs.small_jobs.bound_of.Given as goal

-- it is round what the jobs so far write
abbrev pub invariant-loop-entry : goal.invariant-loop-entry
invariant-loop-entry l = IsRoundFirst l.jobs l.entry-index l.bound
