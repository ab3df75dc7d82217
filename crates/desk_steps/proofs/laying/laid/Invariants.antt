use Rattle.std.proofs.Common.{take}
use Rattle.desk_steps.proofs.Lain.{LaidSoFar}
use Rattle.desk_steps.proofs.laying.laid.Given as goal

-- the blocks so far are laid
abbrev pub invariant-loop-i : goal.invariant-loop-i
invariant-loop-i l = LaidSoFar l.made l.device l.tile (take l.i l.made.blocks)
