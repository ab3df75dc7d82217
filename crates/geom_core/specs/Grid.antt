-- Tiles of 64 and cells of 256 points a side.
use Rattle.std.specs.Prelude.{ℕ, suc, zero, ◌/◌, ℤ, pos, negsuc, ◌+ℤ◌, ◌-ℤ◌, ◌*ℤ◌, Bool, List, [], ◌∷◌, ◌++◌, map, nat_abs}
use Rattle.std.specs.List.{filter_map}
use Rattle.std.specs.declared.cmp.Ordering.{Ordering}
use Rattle.std.specs.Ordering.{int_cmp, ordering_then, eq_by_cmp}
use Rattle.std.specs.FinSet as set
use Rattle.std.specs.FinSet.{FinSet}
use Rattle.geom_core.specs.declared.key.TileKey.{TileKey}
use Rattle.geom_core.specs.Areas.{Area, area, right, bottom, Point}
use Rattle.geom_core.specs.Overlaps.{clipped}

-- x / n, rounded down
abbrev pub floor_by : ℕ → ℤ → ℤ
floor_by n (pos x) = pos (x / n)
floor_by n (negsuc x) = negsuc (x / n)

-- a tile by its column and row
abbrev pub Key : Type 0
Key = TileKey

-- the tile of a column and a row
abbrev pub key : ℤ → ℤ → Key
key c r = record { col = c; row = r }

-- by row, and then by column
abbrev pub key_cmp : Key → Key → Ordering
key_cmp a b = ordering_then (int_cmp a.row b.row) (int_cmp a.col b.col)

-- whether two keys are one
abbrev pub same_key : Key → Key → Bool
same_key = eq_by_cmp key_cmp

-- the tile that a point lies in
abbrev pub key_of : Point → Key
key_of p = key (floor_by 64 p.x) (floor_by 64 p.y)

-- the points of a tile
abbrev pub tile : Key → Area
tile k = area (pos 64 *ℤ k.col) (pos 64 *ℤ k.row) 64 64

-- n numbers from a on
abbrev pub count_from : ℤ → ℕ → List ℤ
count_from a zero = []
count_from a (suc n) = a ∷ count_from (a +ℤ pos 1) n

-- how many numbers there are from a to b
abbrev pub how_many : ℤ → ℤ → ℕ
how_many a b = nat_abs ((b +ℤ pos 1) -ℤ a)

-- the numbers from the piece of a to that of b
abbrev pub pieces : ℕ → ℤ → ℤ → List ℤ
pieces n a b = count_from (floor_by n a) (how_many (floor_by n a) (floor_by n b))

-- a row of keys, one in each of the columns
abbrev pub keys_in_row : List ℤ → ℤ → List Key
keys_in_row [] r = []
keys_in_row (c ∷ cs) r = key c r ∷ keys_in_row cs r

-- the keys in each of the columns and rows, row by row
abbrev pub keys_in_rows : List ℤ → List ℤ → List Key
keys_in_rows cs [] = []
keys_in_rows cs (r ∷ rs) = keys_in_row cs r ++ keys_in_rows cs rs

-- the tiles that a rectangle meets, in row order
abbrev pub keys_of : Area → List Key
keys_of a = keys_in_rows (pieces 64 a.x (right a -ℤ pos 1)) (pieces 64 a.y (bottom a -ℤ pos 1))

-- the tiles of one rectangle after another
abbrev pub all_keys_of : List Area → List Key
all_keys_of [] = []
all_keys_of (a ∷ rest) = keys_of a ++ all_keys_of rest

-- the tiles that some of the rectangles meet
abbrev pub key_set : List Area → FinSet key_cmp
key_set areas = set.from_list (all_keys_of areas)

-- the points of a cell, by its column and row
abbrev pub cell : Key → Area
cell k = area (pos 256 *ℤ k.col) (pos 256 *ℤ k.row) 256 256

-- the cells of the largest canvas, in row order
unfoldable pub cells : List Area
cells = map cell (keys_in_rows (count_from (pos 0) 8) (count_from (pos 0) 8))

-- the cell that a rectangle's corner lies in
abbrev pub cell_of : Area → Key
cell_of a = key (floor_by 256 a.x) (floor_by 256 a.y)

-- the parts of a rectangle by the cells of the largest canvas, in row order
abbrev pub parts : Area → List Area
parts a = filter_map (clipped a) cells
