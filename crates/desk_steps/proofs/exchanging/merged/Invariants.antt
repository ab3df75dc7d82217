use Rattle.std.proofs.Common.{take}
use Rattle.desk_steps.proofs.WholeTiles.{WholeSoFar}
use Rattle.desk_steps.proofs.exchanging.merged.Given as goal

-- the new tile's pixels are laid on the rectangles so far
abbrev pub invariant-loop-rect : goal.invariant-loop-rect
invariant-loop-rect l = WholeSoFar l.whole l.device l.tile (take l.rect-index l.rect-items)
