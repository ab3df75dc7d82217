-- The tile of a shot that a new tile is made from.
use Rattle.std.specs.Prelude.{replicate}
use Rattle.std.specs.Option.{unwrap_or}
use Rattle.std.specs.FinMap as map
use Rattle.geom_core.specs.Grid.{Key}
use Rattle.tile_core.specs.Pixels.{Pixels}
use Rattle.tile_core.specs.Shots.{Sight}

-- the tile under the key, or one of the default pixel
abbrev pub tile_of : Sight → Key → Pixels
tile_of s key = unwrap_or (map.get s.tiles key) (replicate 4096 s.default_pixel)
