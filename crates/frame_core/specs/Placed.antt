-- The tiles of a frame in a list by their places: row by row, 32 to a row as on the largest canvas.
use Rattle.std.specs.Prelude.{◌≡◌, ℕ, suc, ◌+◌, ◌-◌, ◌*◌, ◌/◌, ◌%◌, pos, List, [], ◌∷◌, Option, Some, None, length}
use Rattle.std.specs.FinMap as map
use Rattle.std.specs.FinMap.{FinMap}
use Rattle.geom_core.specs.Grid.{Key, key, key_cmp}
use Rattle.tile_core.specs.Pixels.{Pixels}
use Rattle.frame_core.specs.Plies.{Content}
use Rattle.frame_core.specs.Frames.{Scene, IsScene}

-- the key of a place
abbrev pub key_at : ℕ → Key
key_at i = key (pos (i % 32)) (pos (i / 32))

-- the pixels of a list's tiles by their keys, where its first place is i
abbrev pub tiles_from : ℕ → List (Option Content) → FinMap key_cmp Pixels
tiles_from i [] = map.empty
tiles_from i (None ∷ rest) = tiles_from (suc i) rest
tiles_from i (Some t ∷ rest) = map.insert (tiles_from (suc i) rest) (key_at i) t.pixels

-- the place of the last tile of a canvas of w columns and h rows of points
abbrev pub last_place : ℕ → ℕ → ℕ
last_place w h = 32 * ((h - 1) / 64) + (w - 1) / 64

-- a scene, and a place for each tile of its canvas
pub record IsPlaced (s : Scene) (tiles : List (Option Content)) : Type 0 where
  pub scene : IsScene s
  pub places : length tiles ≡ last_place s.width s.height + 1
