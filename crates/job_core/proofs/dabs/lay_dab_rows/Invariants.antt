use Rattle.job_core.specs.Dabs.{brushed_from}
use Rattle.job_core.proofs.RowChanges.{ChangedSoFar}
use Rattle.job_core.proofs.dabs.lay_dab_rows.Given as goal

-- the dab lies on the rows so far
abbrev pub invariant-loop-row : goal.invariant-loop-row
invariant-loop-row l = ChangedSoFar (brushed_from l.brush l.ink l.dx l.dy) l.width l.part.left l.part.top l.part.w l.row l.initial.pixels l.pixels l.from
