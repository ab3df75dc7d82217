-- The rectangle round the tiles of a device.
use Rattle.std.specs.Prelude.{true, is_some, Option, Some, None, Bool}
use Rattle.geom_core.specs.Areas.{Area, lies_in}
use Rattle.geom_core.specs.Grid.{Key, tile}
use Rattle.geom_core.specs.Exchanged.{IsLeastRound}
use Rattle.memento_core.specs.Planes.{Keyed, tile_under}
use Rattle.tile_core.specs.Pixels.{Pixels}

-- the rectangle is the least round the tiles that stand
abbrev pub IsExtent : Keyed Pixels → Area → Type 0
IsExtent m a = IsLeastRound (λ k. is_some (tile_under m k)) a

-- whether a tile that may stand under the key lies in a rectangle
abbrev pub tile_lies : Option Pixels → Key → Area → Bool
tile_lies None k d = true
tile_lies (Some t) k d = lies_in (tile k) d
