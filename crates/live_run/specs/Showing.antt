-- What updates show of a desk.
use Rattle.std.specs.Prelude.{◌≡◌, true, List, [], ◌∷◌, ◌++◌}
use Rattle.std.specs.List.{list_any}
use Rattle.pixel_core.specs.Rgba.{clear}
use Rattle.geom_core.specs.Areas.{Point, holds}
use Rattle.geom_core.specs.Grid.{Key, key_of, same_key, keys_of}
use Rattle.tile_core.specs.Pixels.{Pixels, pixel_at, pixel_or}
use Rattle.doc_model.specs.Layers.{at}
use Rattle.doc_model.specs.Picture.{picture, canvas_area}
use Rattle.doc_model.specs.Shots.{in_tile}
use Rattle.machine_model.specs.State.{State}
use Rattle.machine_model.specs.Groups.{cache}
use Rattle.live_view.specs.declared.update.Update.{Update}
use Rattle.live_view.specs.Shown.{shown}

-- the updates show the root's cache on those tiles; a tile that was never put is clear
abbrev pub ShowsTiles : List Update → State → List Key → Type 0
ShowsTiles updates s keys = (p : Point) → list_any (same_key (key_of p)) keys ≡ true → pixel_or (shown updates (key_of p)) clear p ≡ at (cache s.caches 0) p

-- on all tiles of the canvas
abbrev pub ShowsRoot : List Update → State → Type 0
ShowsRoot updates s = ShowsTiles updates s (keys_of (canvas_area s.canvas))

-- the updates show the picture of the present document at each point of the canvas
abbrev pub ShowsPicture : List Update → State → Type 0
ShowsPicture updates s = (p : Point) → holds (canvas_area s.canvas) p ≡ true → pixel_or (shown updates (key_of p)) clear p ≡ picture s.present p

-- one more update, with the root's cache under that key
pub record PutsRoot (old new : List Update) (s : State) (key : Key) : Type 0 where
  pub tile : Pixels
  pub is : (p : Point) → in_tile key p ≡ true → pixel_at tile p ≡ at (cache s.caches 0) p
  pub more : new ≡ old ++ (record { key = key; tile = tile }) ∷ []
