-- Parts of tiles: some columns from `left` on, in some rows from `top` on.
use Rattle.std.specs.Prelude.{◌≡◌, ℕ, ◌+◌, ◌-◌, ◌*◌, ◌%◌, ◌<◌, ◌≤◌, Bool, ◌&&◌, nat_le, nat_lt, nat_abs, pos, ◌+ℤ◌, cond, List, slice_index_or}
use Rattle.geom_core.specs.Areas.{Area}
use Rattle.geom_core.specs.Place.{IsOffset}
use Rattle.pixel_core.specs.Rgba.{Rgba, clear}
use Rattle.tile_core.specs.Pixels.{Pixels, pixel_of}
use Rattle.tile_core.specs.declared.rows.Part.{Part}

-- whether a column and a row lie in this part
abbrev pub in_part : ℕ → ℕ → ℕ → ℕ → ℕ → ℕ → Bool
in_part left top w h col row = (nat_le left col && nat_lt col (left + w)) && (nat_le top row && nat_lt row (top + h))

-- the pixel at a column and a row of that part, where the part's pixels stand in row order
abbrev pub pixel_in : ℕ → ℕ → ℕ → List Rgba → ℕ → ℕ → Rgba
pixel_in left top w src col row = slice_index_or src ((row - top) * w + (col - left)) clear

-- the new tile has the part's pixels on the part, and the old tile's elsewhere
abbrev pub LaysPart : Pixels → Pixels → ℕ → ℕ → ℕ → ℕ → List Rgba → Type 0
LaysPart old new left top w h src = (col row : ℕ) → col < 64 → pixel_of new col row ≡ cond (in_part left top w h col row) (pixel_in left top w src col row) (pixel_of old col row)

-- the pixels are the part's, in row order
abbrev pub TakesPart : Pixels → ℕ → ℕ → ℕ → ℕ → List Rgba → Type 0
TakesPart tile left top w h pixels = (col row : ℕ) → col < w → row < h → slice_index_or pixels (row * w + col) clear ≡ pixel_of tile (left + col) (top + row)

-- the new pixels, in rows of some width, have a tile's pixels on a part, and the old ones elsewhere
abbrev pub LaysTile : List Rgba → List Rgba → ℕ → ℕ → ℕ → ℕ → ℕ → Pixels → ℕ → ℕ → Type 0
LaysTile old new width left top w h tile tile_left tile_top = (col row : ℕ) → col < width
    → slice_index_or new (row * width + col) clear ≡ cond (in_part left top w h col row) (pixel_of tile (tile_left + (col - left)) (tile_top + (row - top))) (slice_index_or old (row * width + col) clear)

-- the part of its tile that a rectangle is
pub record IsPartOf (a : Area) (part : Part) : Type 0 where
  pub left : part.left ≡ nat_abs (a.x +ℤ pos 16384) % 64
  pub top : part.top ≡ nat_abs (a.y +ℤ pos 16384) % 64
  pub w : part.w ≡ a.w
  pub h : part.h ≡ a.h
  pub some_w : 1 ≤ part.w
  pub some_h : 1 ≤ part.h
  pub x : IsOffset (nat_abs (a.x +ℤ pos 16384)) a.x
  pub y : IsOffset (nat_abs (a.y +ℤ pos 16384)) a.y
