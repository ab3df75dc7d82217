-- What the root's cache of a desk shows.
use Rattle.std.specs.Prelude.{◌≡◌, true, false}
use Rattle.pixel_core.specs.Rgba.{clear}
use Rattle.geom_core.specs.Areas.{holds, Point}
use Rattle.geom_core.specs.Grid.{Key}
use Rattle.tile_core.specs.Pixels.{Pixels, pixel_at}
use Rattle.doc_model.specs.Layers.{at}
use Rattle.doc_model.specs.Shots.{in_tile}
use Rattle.doc_model.specs.Picture.{picture, canvas_area}
use Rattle.machine_model.specs.State.{State}
use Rattle.machine_model.specs.Groups.{cache}
use Rattle.machine_model.specs.Covers.{covered}

-- at each point of the canvas the root's cache is the picture of the present document
abbrev pub ShowsPicture : State → Type 0
ShowsPicture s = (p : Point) → holds (canvas_area s.canvas) p ≡ true → at (cache s.caches 0) p ≡ picture s.present p

-- the same at each point of the canvas at which nothing will compose the root anew
abbrev pub ShowsWhereClean : State → Type 0
ShowsWhereClean s = (p : Point) → holds (canvas_area s.canvas) p ≡ true → covered s 0 p ≡ false → at (cache s.caches 0) p ≡ picture s.present p

-- the tile has what the root's cache has there
abbrev pub IsRootTile : State → Key → Pixels → Type 0
IsRootTile s key tile = (p : Point) → in_tile key p ≡ true → pixel_at tile p ≡ at (cache s.caches 0) p

-- the root's cache is clear there
abbrev pub RootIsClear : State → Key → Type 0
RootIsClear s key = (p : Point) → in_tile key p ≡ true → at (cache s.caches 0) p ≡ clear
