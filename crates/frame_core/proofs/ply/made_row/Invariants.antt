use Rattle.frame_core.proofs.LaidPlies.{LaidSoFar}
use Rattle.frame_core.proofs.ply.made_row.Given as goal

-- the plies so far are laid
abbrev pub invariant-loop-ply : goal.invariant-loop-ply
invariant-loop-ply l = LaidSoFar l.plies l.row l.ply-index l.open
