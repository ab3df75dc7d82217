use Rattle.std.proofs.Common.{take}
use Rattle.whole_tiles.proofs.News.{LaidSoFar}
use Rattle.whole_tiles.proofs.pixels.lay_blocks.Given as goal

-- the blocks so far are laid
abbrev pub invariant-loop-i : goal.invariant-loop-i
invariant-loop-i l = LaidSoFar l.painted l.initial.tile l.tile (take l.i l.painted.blocks)
