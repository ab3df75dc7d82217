use Rattle.tile_core.proofs.Copied.{CopiedSoFar}
use Rattle.tile_core.proofs.keyed.shared_tiles.Given as goal

-- the tiles so far, and those that are left
abbrev pub invariant-loop-key : goal.invariant-loop-key
invariant-loop-key l = CopiedSoFar l.tiles l.shared l.key-iterator
