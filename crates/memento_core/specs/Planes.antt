-- Planes of tiles: under each key stands a tile or None.
use Rattle.std.specs.Prelude.{Option, None}
use Rattle.std.specs.Option.{unwrap_or}
use Rattle.std.specs.FinMap as map
use Rattle.std.specs.FinMap.{FinMap}
use Rattle.geom_core.specs.Grid.{Key, key_cmp}

-- the keys that are there, each with a tile or None
abbrev pub Keyed : Type 0 → Type 0
Keyed T = FinMap key_cmp (Option T)

-- the tile under a key, None also where the key isn't there
abbrev pub tile_under : {T : Type 0} → Keyed T → Key → Option T
tile_under plane k = unwrap_or (map.get plane k) None
