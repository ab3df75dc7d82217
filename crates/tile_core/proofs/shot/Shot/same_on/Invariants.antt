use Rattle.tile_core.proofs.SameSights.{SameOnFirst}
use Rattle.tile_core.proofs.shot.Shot.same_on.Given as goal

-- both are the same on the rectangles so far
abbrev pub invariant-loop-rect : goal.invariant-loop-rect
invariant-loop-rect l = SameOnFirst l.self l.other l.rects l.rect-index
