use Rattle.job_core.proofs.RowLaws.{RowsSoFar}
use Rattle.job_core.proofs.rows.lay_rows.Given as goal

-- the rows so far are laid
abbrev pub invariant-loop-row : goal.invariant-loop-row
invariant-loop-row l = RowsSoFar l.width l.part.left l.part.top l.part.w l._row l.src l.initial.pixels l.pixels l.from l.to
