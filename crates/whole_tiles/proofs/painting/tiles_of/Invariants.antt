use Rattle.std.proofs.Common.{◌≡◌, ◌++◌, [], take, drop}
use Rattle.whole_tiles.specs.Plans.{tiles_from}
use Rattle.whole_tiles.proofs.painting.tiles_of.Given as goal

-- the tiles of the rectangles so far, and then those of the others
abbrev pub invariant-loop-n : goal.invariant-loop-n
invariant-loop-n l = (l.keys.items ++ tiles_from (take l.n l.rects) (drop l.n l.rects)) ≡ tiles_from [] l.rects
