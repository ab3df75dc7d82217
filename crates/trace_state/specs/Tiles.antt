-- Sets of tiles.
use Rattle.std.specs.Prelude.{Bool, Option, Some, List, [], ◌∷◌}
use Rattle.std.specs.List.{list_all}
use Rattle.std.specs.FinSet as set
use Rattle.std.specs.FinSet.{FinSet}
use Rattle.geom_core.specs.Areas.{Area}
use Rattle.geom_core.specs.Grid.{Key, key_cmp, key_set, tile}
use Rattle.geom_core.specs.Touches.{bound_of}
use Rattle.geom_core.specs.Exchanged.{widened}
use Rattle.doc_model.specs.Strokes.{Jobs}
use Rattle.machine_model.specs.Effects.{writes_of}

-- whether all of the tiles are in the set
abbrev pub has_all : FinSet key_cmp → List Key → Bool
has_all keys tiles = list_all (set.contains keys) tiles

-- the least rectangle round one that may be there and the tiles
abbrev pub rounded : List Key → Option Area → Option Area
rounded [] bound = bound
rounded (k ∷ ks) bound = rounded ks (Some (widened bound (tile k)))

-- the rectangle round the tiles that the jobs may change
abbrev pub round : Jobs → Option Area
round jobs = bound_of (set.items (key_set (writes_of jobs)))
