-- A tile as contracts see it: its 4,096 pixels in row order.
use Rattle.std.specs.Prelude.{◌≡◌, ℕ, ◌+◌, ◌*◌, ◌%◌, pos, true, List, Option, Some, None, slice_index_or}
use Rattle.geom_core.specs.Areas.{Area, area, holds, Point}
use Rattle.geom_core.specs.Rects.{place_in}
use Rattle.geom_core.specs.Place.{across, down}
use Rattle.pixel_core.specs.Rgba.{Rgba, clear}

-- the pixels of a tile, row by row from the top, each row from the left
abbrev pub Pixels : Type 0
Pixels = List Rgba

-- the pixel of a column and a row
abbrev pub pixel_of : Pixels → ℕ → ℕ → Rgba
pixel_of tile col row = slice_index_or tile (64 * row + col) clear

-- the pixel at a point of the world, where the tile is that of the point's key
abbrev pub pixel_at : Pixels → Point → Rgba
pixel_at tile p = pixel_of tile (across p % 64) (down p % 64)

-- the pixel at a point of a tile that may be there
abbrev pub pixel_or : Option Pixels → Rgba → Point → Rgba
pixel_or None c p = c
pixel_or (Some t) c p = pixel_at t p

-- the points of the tile whose corner is (0, 0)
abbrev pub whole_tile : Area
whole_tile = area (pos 0) (pos 0) 64 64

-- both tiles have the same pixel at each point of the rectangle
abbrev pub SameOn : Area → Pixels → Pixels → Type 0
SameOn a tile other = (p : Point) → holds a p ≡ true → pixel_at tile p ≡ pixel_at other p

-- the tile has that pixel at each point of the rectangle
abbrev pub IsPlainOn : Area → Pixels → Rgba → Type 0
IsPlainOn a tile c = (p : Point) → holds a p ≡ true → pixel_at tile p ≡ c

-- pixels in row order are those of the points of a rectangle, as f has them
abbrev pub HasPixels : Area → (Point → Rgba) → List Rgba → Type 0
HasPixels a f pixels = (p : Point) → holds a p ≡ true → slice_index_or pixels (place_in a p) clear ≡ f p
