-- Damaged parts of the tiles of a canvas.
use Rattle.std.specs.Prelude.{◌≡◌, ℕ, Bool, false, ◌&&◌, if◌then◌else◌, Option, Some, None, List, slice_index_or, replicate}
use Rattle.geom_core.specs.Areas.{Area, holds, lies_in, Point}
use Rattle.geom_core.specs.Overlaps.{bound, clipped}
use Rattle.geom_core.specs.Rects.{IsWithin}
use Rattle.geom_core.specs.Grid.{Key, key_of, same_key, tile}
use Rattle.frame_core.specs.Marks.{place_at, on_canvas}

-- for each of the 32 by 32 tiles of the largest canvas its damaged part, if any, in row order
abbrev pub Parts : Type 0
Parts = List (Option Area)

-- the part at a place; where there is no place nothing is damaged
abbrev pub part_in : Parts → Option ℕ → Option Area
part_in parts None = None
part_in parts (Some i) = slice_index_or parts i None

-- the damaged part of the key's tile; outside the largest canvas no tile has one
abbrev pub part_at : Parts → Key → Option Area
part_at parts k = part_in parts (place_at k.col k.row)

-- whether a part, if there is one, holds the point
abbrev pub part_has : Option Area → Point → Bool
part_has None p = false
part_has (Some a) p = holds a p

-- whether the point is damaged
abbrev pub is_damaged : Parts → Point → Bool
is_damaged parts p = part_has (part_at parts (key_of p)) p

-- the least rectangle round both, or the one that is there
abbrev pub grown : Option Area → Option Area → Option Area
grown None o = o
grown (Some a) None = Some a
grown (Some a) (Some b) = Some (bound a b)

-- whether a part, if there is one, has all points of the rectangle
abbrev pub has_all : Option Area → Area → Bool
has_all None a = false
has_all (Some part) a = lies_in a part

-- no tile is damaged
abbrev pub intact : Parts
intact = replicate 1024 None

-- the rectangle's points on the largest canvas are damaged too
abbrev pub Adds : Area → Parts → Parts → Type 0
Adds a old new = (k : Key) → part_at new k ≡ (if on_canvas k then grown (part_at old k) (clipped a (tile k)) else None)

-- its points in one tile of the largest canvas are
abbrev pub AddsInTile : Key → Area → Parts → Parts → Type 0
AddsInTile key a old new = (k : Key) → part_at new k ≡ (if same_key k key && on_canvas k then grown (part_at old k) (clipped a (tile k)) else part_at old k)

-- each part lies in its tile
abbrev pub FitTiles : Parts → Type 0
FitTiles parts = (k : Key) (a : Area) → part_at parts k ≡ Some a → IsWithin a (tile k)
