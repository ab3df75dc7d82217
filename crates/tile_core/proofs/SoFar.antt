-- How far the loops over rows have come.
use Rattle.std.proofs.Common.{◌≡◌, ℕ, ◌+◌, ◌*◌, List, length}
use Rattle.pixel_core.specs.Rgba.{Rgba}
use Rattle.tile_core.specs.Pixels.{Pixels}
use Rattle.tile_core.specs.Parts.{LaysPart, TakesPart, LaysTile}

-- the first rows of the part are laid, and the next row's places are these
pub record LaidSoFar (old new : Pixels) (left top w rows : ℕ) (src : List Rgba) (from to : ℕ) : Type 0 where
  pub laid : LaysPart old new left top w rows src
  pub from_is : from ≡ rows * w
  pub to_is : to ≡ 64 * (top + rows) + left

-- the first rows of the part are taken
pub record TakenSoFar (tile : Pixels) (left top w rows : ℕ) (pixels : List Rgba) (from : ℕ) : Type 0 where
  pub taken : TakesPart tile left top w rows pixels
  pub many : length pixels ≡ rows * w
  pub from_is : from ≡ 64 * (top + rows) + left

-- the first rows of a tile's part are laid
pub record TileSoFar (old new : List Rgba) (width left top w rows : ℕ) (tile : Pixels) (tile_left tile_top from to : ℕ) : Type 0 where
  pub laid : LaysTile old new width left top w rows tile tile_left tile_top
  pub from_is : from ≡ 64 * (tile_top + rows) + tile_left
  pub to_is : to ≡ (top + rows) * width + left
