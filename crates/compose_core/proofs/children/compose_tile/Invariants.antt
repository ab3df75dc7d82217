use Rattle.compose_core.proofs.LaidChildren.{GroupSoFar}
use Rattle.compose_core.proofs.children.compose_tile.Given as goal

-- the children so far are laid
abbrev pub invariant-loop-i : goal.invariant-loop-i
invariant-loop-i l = GroupSoFar l.part.left l.part.top l.part.w l.part.h l.looks l.tiles l.pixels.items l.i
