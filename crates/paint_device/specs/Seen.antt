-- The layer that a device shows.
use Rattle.std.specs.Prelude.{true, map}
use Rattle.std.specs.FinMap as fin
use Rattle.geom_core.specs.Grid.{tile}
use Rattle.doc_model.specs.Layers.{Layer, painted, plain}
use Rattle.paint_device.specs.Sheets.{Sheet, sheet_at}

-- the default pixel everywhere, and the sheet's pixels on its tiles
unfoldable pub layer_of : Sheet → Layer
layer_of s = painted (map tile (fin.keys s.tiles)) (λ _. true) (sheet_at s) (plain s.default_pixel)
