-- Layers: a pixel that stands everywhere, and a finite map from points to other pixels.
use Rattle.std.specs.Prelude.{◌≢◌, Bool, if◌then◌else◌, List, [], ◌∷◌, Some}
use Rattle.std.specs.Option.{unwrap_or}
use Rattle.std.specs.List.{filter, flat_map}
use Rattle.std.specs.FinMap as map
use Rattle.std.specs.FinMap.{FinMap}
use Rattle.pixel_core.specs.Rgba.{Rgba, same_pixel}
use Rattle.pixel_core.proofs.SamePixels.{other_pixel}
use Rattle.geom_core.specs.Areas.{Area, Point, point_cmp, points_of}
use Rattle.geom_core.proofs.Entries.{no_entry, kept-entry}

-- the map has no point with the default pixel
pub record Layer : Type 0 where
  pub default_pixel : Rgba
  pub pixels : FinMap point_cmp Rgba
  pub kept : (p : Point) → map.get pixels p ≢ Some default_pixel

-- the layer's pixel at a point: the default pixel where the map has none
unfoldable pub at : Layer → Point → Rgba
at layer p = unwrap_or (map.get layer.pixels p) layer.default_pixel

-- one pixel everywhere
unfoldable pub plain : Rgba → Layer
plain c = record { default_pixel = c; pixels = map.empty; kept = λ p. no_entry c _ (map.get-empty point_cmp p) }

-- c at p, and the layer everywhere else; the map has no entry for the default pixel
unfoldable pub put : Layer → Point → Rgba → Layer
put layer p c = record {
  default_pixel = layer.default_pixel;
  pixels = if same_pixel c layer.default_pixel then map.remove layer.pixels p else map.insert layer.pixels p c;
  kept = kept-entry (same_pixel c layer.default_pixel) layer.pixels p c layer.default_pixel (other_pixel c layer.default_pixel) layer.kept;
}

-- f at these points, and the layer everywhere else
unfoldable pub painted_at : (Point → Rgba) → List Point → Layer → Layer
painted_at f [] layer = layer
painted_at f (p ∷ ps) layer = put (painted_at f ps layer) p (f p)

-- f at the points of these areas that pass the test, and the layer everywhere else
unfoldable pub painted : List Area → (Point → Bool) → (Point → Rgba) → Layer → Layer
painted areas test f layer = painted_at f (filter test (flat_map points_of areas)) layer
