-- Marks of the tiles of a canvas.
use Rattle.std.specs.Prelude.{ℕ, ◌+◌, ◌*◌, ℤ, pos, negsuc, nat_lt, Bool, ◌&&◌, ◌||◌, ◌≡◌, false, if◌then◌else◌, Option, Some, None, is_some, List, slice_index_or, replicate}
use Rattle.geom_core.specs.Grid.{Key, same_key}

-- a mark for each of the 32 by 32 tiles of the largest canvas, in row order
abbrev pub Grid : Type 0
Grid = List Bool

-- where the tile of a column and a row stands among them; None outside the largest canvas
abbrev pub place_at : ℤ → ℤ → Option ℕ
place_at (pos c) (pos r) = if nat_lt c 32 && nat_lt r 32 then Some (32 * r + c) else None
place_at (pos c) (negsuc r) = None
place_at (negsuc c) r = None

-- the mark at a place; where there is no place nothing is marked
abbrev pub mark_at : Grid → Option ℕ → Bool
mark_at g None = false
mark_at g (Some i) = slice_index_or g i false

-- whether the key's tile is marked; outside the largest canvas no tile is
abbrev pub has_mark : Grid → Key → Bool
has_mark g k = mark_at g (place_at k.col k.row)

-- whether the key is that of a tile of the largest canvas
abbrev pub on_canvas : Key → Bool
on_canvas k = is_some (place_at k.col k.row)

-- the key's tile is marked too, if it is one of the largest canvas
abbrev pub AddsMark : Grid → Grid → Key → Type 0
AddsMark old new key = (k : Key) → has_mark new k ≡ (has_mark old k || (same_key k key && on_canvas k))

-- no tile is marked
abbrev pub no_marks : Grid
no_marks = replicate 1024 false
