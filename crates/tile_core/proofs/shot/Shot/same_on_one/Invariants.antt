use Rattle.tile_core.proofs.SameSights.{SameUpTo}
use Rattle.tile_core.proofs.shot.Shot.same_on_one.Given as goal

-- both are the same on the tiles so far
abbrev pub invariant-loop-i : goal.invariant-loop-i
invariant-loop-i l = SameUpTo l.self l.other l.rect l.i
