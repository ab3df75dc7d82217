-- What holds of every rectangle, its tiles and its cells.
use Rattle.std.specs.Prelude.{◌≡◌, ◌≤◌, true, Bool, List, pos}
use Rattle.std.specs.List.{list_any, IsDistinct}
use Rattle.std.specs.List.Sorted.{IsStrictlySortedBy}
use Rattle.geom_core.specs.Areas.{Area, area, holds, meets, lies_in, Point}
use Rattle.geom_core.specs.Overlaps.{common, bound}
use Rattle.geom_core.specs.Rects.{any_holds, IsShared}
use Rattle.geom_core.specs.Grid.{Key, key_cmp, key_of, same_key, tile, keys_of, cell, parts}
use Rattle.geom_core.specs.Cells.{cell_keys_of, cells_of}

-- each point of the first is one of the second
abbrev pub AllIn : Area → Area → Type 0
AllIn a b = (p : Point) → holds a p ≡ true → holds b p ≡ true

-- the third has all points of the first two, and lies in each rectangle that has them
pub record IsLeastAround (a b c : Area) : Type 0 where
  pub first : AllIn a c
  pub second : AllIn b c
  pub least : (d : Area) → AllIn a d → AllIn b d → AllIn c d

-- the bounding rectangle of two is the least that has the points of both
abbrev pub BoundIsLeast : Type 0
BoundIsLeast = (a b : Area) → 1 ≤ a.w → 1 ≤ a.h → 1 ≤ b.w → 1 ≤ b.h → IsLeastAround a b (bound a b)

-- a point's key is just that of the tile which holds it
abbrev pub KeyIsOfHolder : Type 0
KeyIsOfHolder = (p : Point) (k : Key) → ((key_of p ≡ k) → holds (tile k) p ≡ true) × (holds (tile k) p ≡ true → key_of p ≡ k)

-- the list has just the keys that pass the test, each once, by row and then by column
pub record HasEachOnce (passes : Key → Bool) (keys : List Key) : Type 0 where
  pub ascending : IsStrictlySortedBy key_cmp keys
  pub distinct : IsDistinct same_key keys
  pub exact : (k : Key) → list_any (same_key k) keys ≡ passes k

-- the tiles of a rectangle are those that it meets
abbrev pub TilesAreMet : Type 0
TilesAreMet = (a : Area) → 1 ≤ a.w → 1 ≤ a.h → HasEachOnce (λ k. meets a (tile k)) (keys_of a)

-- the cells of a rectangle are those that it meets; its part in each has the points of both, and each of its points lies in a part
pub record IsPartedByCells (a : Area) : Type 0 where
  pub cells : HasEachOnce (λ k. meets a (cell k)) (cell_keys_of a)
  pub shared : (k : Key) → meets a (cell k) ≡ true → IsShared a (cell k) (common a (cell k))
  pub whole : (p : Point) → any_holds (cells_of a) p ≡ holds a p

-- every rectangle is parted by its cells
abbrev pub CellsAreMet : Type 0
CellsAreMet = (a : Area) → 1 ≤ a.w → 1 ≤ a.h → IsPartedByCells a

-- in the largest canvas the cells of a rectangle are its parts
abbrev pub PartsAreCells : Type 0
PartsAreCells = (a : Area) → 1 ≤ a.w → 1 ≤ a.h → lies_in a (area (pos 0) (pos 0) 2048 2048) ≡ true → parts a ≡ cells_of a
