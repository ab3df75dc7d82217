-- Pixels that can stand in a layer.
use Rattle.std.specs.Prelude.{◌≡◌, ◌<◌}
use Rattle.pixel_core.specs.Rgba.{Rgba, clear}

-- four bytes, all 0 where the alpha is 0
pub record IsCanonical (p : Rgba) : Type 0 where
  pub r : p.r < 256
  pub g : p.g < 256
  pub b : p.b < 256
  pub a : p.a < 256
  pub clear_where_0 : p.a ≡ 0 → p ≡ clear
