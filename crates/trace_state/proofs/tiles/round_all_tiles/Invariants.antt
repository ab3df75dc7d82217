use Rattle.std.proofs.Common.{◌≡◌, drop}
use Rattle.geom_core.specs.Grid.{all_keys_of}
use Rattle.trace_state.specs.Tiles.{rounded}
use Rattle.trace_state.proofs.tiles.round_all_tiles.Given as goal

-- with the tiles of the rectangles that are left it is the rectangle round all
abbrev pub invariant-loop-rect : goal.invariant-loop-rect
invariant-loop-rect l = rounded (all_keys_of (drop l.rect-index l.rects)) l.round ≡ rounded (all_keys_of l.rects) l.fn.bound
