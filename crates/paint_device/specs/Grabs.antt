-- What a shot takes from a sheet.
use Rattle.std.specs.Prelude.{◌≡◌, true, Option, Some, None, List, cond}
use Rattle.std.specs.List.{list_any}
use Rattle.std.specs.FinMap as map
use Rattle.geom_core.specs.Grid.{Key, same_key}
use Rattle.tile_core.specs.Pixels.{Pixels}
use Rattle.tile_core.specs.Shots.{Sight}
use Rattle.memento_core.specs.Planes.{tile_under}
use Rattle.paint_device.specs.Sheets.{Sheet}

-- the first tile where it is there, else the second
abbrev pub or_else : Option Pixels → Option Pixels → Option Pixels
or_else None o = o
or_else (Some t) o = Some t

-- under each of these keys the shot has the tile that stands there, or none where none does
abbrev pub SharesTiles : Sheet → List Key → Sight → Type 0
SharesTiles s keys shot = (k : Key) → list_any (same_key k) keys ≡ true → map.get shot.tiles k ≡ tile_under s.tiles k

-- the shot has taken the tiles under these keys
pub record Grabs (s : Sheet) (old new : Sight) (keys : List Key) : Type 0 where
  pub default_pixel : new.default_pixel ≡ old.default_pixel
  pub rects : new.rects ≡ old.rects
  pub tiles : (k : Key) → map.get new.tiles k ≡ or_else (cond (list_any (same_key k) keys) (tile_under s.tiles k) None) (map.get old.tiles k)
