use Rattle.job_core.specs.Laid.{inked}
use Rattle.job_core.proofs.RowChanges.{ChangedSoFar}
use Rattle.job_core.proofs.fills.lay_ink.Given as goal

-- the ink lies on the rows so far
abbrev pub invariant-loop-row : goal.invariant-loop-row
invariant-loop-row l = ChangedSoFar (inked l.ink) 64 l.part.left l.part.top l.part.w l._row l.initial.tile l.tile l.from
