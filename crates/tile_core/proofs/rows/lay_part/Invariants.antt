use Rattle.tile_core.proofs.SoFar.{LaidSoFar}
use Rattle.tile_core.proofs.rows.lay_part.Given as goal

-- the rows so far are laid
abbrev pub invariant-loop-row : goal.invariant-loop-row
invariant-loop-row l = LaidSoFar l.initial.tile l.tile l.part.left l.part.top l.part.w l._row l.src l.from l.to
