-- Parts of tiles, and what is given on them.
use Rattle.std.specs.Prelude.{◌%◌, ◌-ℤ◌, pos, ◌≡◌, true}
use Rattle.pixel_core.specs.Rgba.{Rgba}
use Rattle.geom_core.specs.Areas.{Area, area, holds, Point, point}
use Rattle.geom_core.specs.Rects.{IsWithin}
use Rattle.geom_core.specs.Place.{across, down}
use Rattle.geom_core.specs.Grid.{tile}
use Rattle.geom_core.specs.Keys.{IsWorldKey}
use Rattle.doc_model.specs.Shots.{in_tile}
use Rattle.compose_core.specs.declared.children.Given.{Given}
use Rattle.compose_core.specs.Children.{given_at}
use Rattle.compose_core.specs.declared.spot.Spot.{Spot}

-- the part lies in its tile, a tile of the world
pub record IsSpot (s : Spot) : Type 0 where
  pub key : IsWorldKey s.key
  pub inside : IsWithin s.part (tile s.key)

-- the part, as its columns and rows count from its tile's corner
abbrev pub part_in_tile : Spot → Area
part_in_tile s = area (s.part.x -ℤ (tile s.key).x) (s.part.y -ℤ (tile s.key).y) s.part.w s.part.h

-- a point of the world, as its column and row count from its tile's corner
abbrev pub point_in_tile : Point → Point
point_in_tile p = point (pos (across p % 64)) (pos (down p % 64))

-- what is given at a point of the tile
abbrev pub given_on : Given → Point → Rgba
given_on given p = given_at (across p % 64) (down p % 64) given

-- the part has each point of the rectangle that lies in the tile
abbrev pub Catches : Area → Spot → Type 0
Catches rect s = (p : Point) → holds rect p ≡ true → in_tile s.key p ≡ true → holds s.part p ≡ true
