-- Parts of a tile that have given pixels.
use Rattle.std.specs.Prelude.{◌≡◌, ℕ, ◌+◌, ◌*◌, ◌<◌, slice_index_or}
use Rattle.pixel_core.specs.Rgba.{Rgba, clear}
use Rattle.tile_core.specs.Pixels.{Pixels, pixel_of}

-- the tile has the pixels of f, which goes by places, in w columns from `left` on, in h rows from `top` on
abbrev pub PartIs : Pixels → (ℕ → Rgba) → ℕ → ℕ → ℕ → ℕ → Type 0
PartIs tile f left top w h = (col row : ℕ) → col < w → row < h → pixel_of tile (left + col) (top + row) ≡ f (64 * (top + row) + (left + col))

-- it has n pixels of f from a place on
abbrev pub RowIs : Pixels → (ℕ → Rgba) → ℕ → ℕ → Type 0
RowIs tile f from n = (i : ℕ) → i < n → slice_index_or tile (from + i) clear ≡ f (from + i)
