-- A picture of a canvas as contracts see it.
use Rattle.std.specs.Prelude.{ℕ}
use Rattle.pixel_core.specs.Rgba.{Rgba}

-- how many columns and rows it has, its paper, and the pixel of each column and row, both from 0
pub record Shown : Type 0 where
  pub width : ℕ
  pub height : ℕ
  pub paper : Rgba
  pub pixel : ℕ → ℕ → Rgba
