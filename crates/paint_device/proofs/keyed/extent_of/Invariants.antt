use Rattle.paint_device.proofs.Extents.{SpannedSoFar}
use Rattle.paint_device.proofs.keyed.extent_of.Given as goal

-- the tiles of the entries so far lie in the rectangle, and no smaller one has them
abbrev pub invariant-loop-key : goal.invariant-loop-key
invariant-loop-key l = SpannedSoFar l.tiles l.extent l.key-iterator
