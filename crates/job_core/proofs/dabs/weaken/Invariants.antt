use Rattle.job_core.proofs.DabRows.{WeakenedSoFar}
use Rattle.job_core.proofs.dabs.weaken.Given as goal

-- the strengths so far are multiplied
abbrev pub invariant-loop-i : goal.invariant-loop-i
invariant-loop-i l = WeakenedSoFar l.strength l.initial.row l.row l.i
