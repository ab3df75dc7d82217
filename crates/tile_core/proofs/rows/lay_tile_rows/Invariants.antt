use Rattle.tile_core.proofs.SoFar.{TileSoFar}
use Rattle.tile_core.proofs.rows.lay_tile_rows.Given as goal

-- the rows so far are laid
abbrev pub invariant-loop-row : goal.invariant-loop-row
invariant-loop-row l = TileSoFar l.initial.pixels l.pixels l.width l.part.left l.part.top l.part.w l._row l.tile l.tile_left l.tile_top l.from l.to
