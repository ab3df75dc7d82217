-- The rectangle round tiles.
use Rattle.std.specs.Prelude.{Option, Some, None, List, [], ◌∷◌}
use Rattle.geom_core.specs.Areas.{Area}
use Rattle.geom_core.specs.Overlaps.{bound}
use Rattle.geom_core.specs.Grid.{Key, tile}

-- the least rectangle round tiles, if there are any, tile by tile
abbrev pub bound_of : List Key → Option Area
bound_of [] = None
bound_of (k ∷ ks) = Some (wider (tile k) (bound_of ks))
  where
    wider : Area → Option Area → Area
    wider a None = a
    wider a (Some b) = bound a b
