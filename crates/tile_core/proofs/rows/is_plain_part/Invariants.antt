use Rattle.tile_core.proofs.SameParts.{IsSoFar}
use Rattle.tile_core.proofs.rows.is_plain_part.Given as goal

-- the rows so far have those pixels
abbrev pub invariant-loop-row : goal.invariant-loop-row
invariant-loop-row l = IsSoFar l.tile (λ _. l.p) l.part.left l.part.top l.part.w l._row l.from
