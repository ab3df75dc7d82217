use Rattle.std.proofs.Common.{◌≡◌, take}
use Rattle.geom_core.specs.Grid.{keys_of}
use Rattle.slot_work.specs.Lacking.{keys_of_tiles}
use Rattle.slot_work.proofs.wholes.are_all_of.Given as goal

-- the tiles so far are the rectangle's
abbrev pub invariant-loop-i : goal.invariant-loop-i
invariant-loop-i l = take l.i (keys_of_tiles l.tiles) ≡ take l.i (keys_of l.rect)
