use Rattle.std.proofs.Common.{◌≡◌, ◌++◌, take}
use Rattle.std.specs.List.{filter}
use Rattle.geom_core.specs.Grid.{keys_of}
use Rattle.whole_tiles.specs.Plans.{is_apart}
use Rattle.whole_tiles.proofs.painting.add_tiles.Given as goal

-- the tiles so far that none meets are added
abbrev pub invariant-loop-i : goal.invariant-loop-i
invariant-loop-i l = l.keys.items ≡ l.initial.keys.items ++ filter (is_apart l.before) (take l.i (keys_of l.rect))
