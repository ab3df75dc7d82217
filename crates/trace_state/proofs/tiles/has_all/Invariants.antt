use Rattle.std.proofs.Common.{◌≡◌, drop}
use Rattle.geom_core.specs.Grid.{keys_of}
use Rattle.trace_state.specs.Tiles.{has_all}
use Rattle.trace_state.proofs.tiles.has_all.Given as goal

-- the tiles so far are in the set
abbrev pub invariant-loop-i : goal.invariant-loop-i
invariant-loop-i l = has_all l.keys (drop l.i (keys_of l.rect)) ≡ has_all l.keys (keys_of l.rect)
