-- What holds of every device's value.
use Rattle.std.specs.Prelude.{◌≡◌, Option, if◌then◌else◌}
use Rattle.geom_core.specs.Areas.{Point}
use Rattle.geom_core.specs.Grid.{Key, key_of, same_key}
use Rattle.tile_core.specs.Pixels.{Pixels, pixel_or}
use Rattle.doc_model.specs.Layers.{at}
use Rattle.paint_device.specs.Sheets.{Sheet, sheet_at, with_under, readied}
use Rattle.paint_device.specs.Seen.{layer_of}

-- the layer has the sheet's pixel at each point
abbrev pub LayerHasPixels : Type 0
LayerHasPixels = (s : Sheet) (p : Point) → at (layer_of s) p ≡ sheet_at s p

-- and its default pixel
abbrev pub LayerHasDefault : Type 0
LayerHasDefault = (s : Sheet) → (layer_of s).default_pixel ≡ s.default_pixel

-- with another tile or None under a key only the points of that key change
abbrev pub SeenAfterExchange : Type 0
SeenAfterExchange = (s : Sheet) (k : Key) (t : Option Pixels) (p : Point) → sheet_at (with_under s k t) p ≡ (if same_key (key_of p) k then pixel_or t s.default_pixel p else sheet_at s p)

-- no pixel changes where a key comes in
abbrev pub ReadyKeepsPixels : Type 0
ReadyKeepsPixels = (s : Sheet) (k : Key) (p : Point) → sheet_at (readied s k) p ≡ sheet_at s p
