use Rattle.tile_core.proofs.SoFar.{TakenSoFar}
use Rattle.tile_core.proofs.rows.part_of.Given as goal

-- the rows so far are taken
abbrev pub invariant-loop-row : goal.invariant-loop-row
invariant-loop-row l = TakenSoFar l.tile l.part.left l.part.top l.part.w l._row l.pixels.items l.from
