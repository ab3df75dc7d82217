use Rattle.std.proofs.Common.{◌≡◌, drop}
use Rattle.geom_core.specs.Grid.{keys_of}
use Rattle.trace_state.specs.Tiles.{rounded}
use Rattle.trace_state.proofs.tiles.round_tiles.Given as goal

-- with the tiles that are left it is the rectangle round all
abbrev pub invariant-loop-i : goal.invariant-loop-i
invariant-loop-i l = rounded (drop l.i (keys_of l.rect)) l.round ≡ rounded (keys_of l.rect) l.fn.bound
