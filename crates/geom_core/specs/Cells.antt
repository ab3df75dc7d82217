-- The parts of any rectangle by cells of 256 points a side.
use Rattle.std.specs.Prelude.{pos, ◌-ℤ◌, List, map}
use Rattle.geom_core.specs.Areas.{Area, right, bottom}
use Rattle.geom_core.specs.Overlaps.{common}
use Rattle.geom_core.specs.Grid.{Key, pieces, keys_in_rows, cell}

-- the cells that a rectangle meets, by their columns and rows, in row order
abbrev pub cell_keys_of : Area → List Key
cell_keys_of a = keys_in_rows (pieces 256 a.x (right a -ℤ pos 1)) (pieces 256 a.y (bottom a -ℤ pos 1))

-- the parts of any rectangle in the cells that it meets, in row order
abbrev pub cells_of : Area → List Area
cells_of a = map (λ k. common a (cell k)) (cell_keys_of a)
