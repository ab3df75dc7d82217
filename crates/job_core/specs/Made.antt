-- Blocks by what they have at each point.
use Rattle.std.specs.Prelude.{◌≡◌, ℕ, ℤ, true, pos, negsuc, ◌-ℤ◌, ◌≤ℤ◌, if◌then◌else◌}
use Rattle.pixel_core.specs.Rgba.{Rgba}
use Rattle.pixel_core.specs.Compose.{compose, mul}
use Rattle.brush_mask.specs.Mask.{mask}
use Rattle.geom_core.specs.Areas.{Area, holds, Point, point}
use Rattle.geom_core.specs.Rects.{IsShared}
use Rattle.geom_core.specs.Grid.{Key, tile}
use Rattle.tile_core.specs.Blocks.{Piece}
use Rattle.tile_core.specs.Pixels.{HasPixels}
use Rattle.tile_core.specs.Shots.{Sight, sight_at}
use Rattle.job_core.specs.declared.ink.Ink.{Ink}
use Rattle.job_core.specs.declared.dabs.Brush.{Brush}

-- what f has of the points of a rectangle in a tile, as a block
pub record IsBlock (key : Key) (part : Area) (f : Point → Rgba) (b : Piece) : Type 0 where
  pub key_is : b.key ≡ key
  pub rect_is : b.rect ≡ part
  pub pixels : HasPixels part f b.pixels

-- as far as two points of the world can lie apart
pub record IsStep (dx dy : ℤ) : Type 0 where
  pub across : (negsuc 32766 ≤ℤ dx) × (dx ≤ℤ pos 32767)
  pub down : (negsuc 32766 ≤ℤ dy) × (dy ≤ℤ pos 32767)

-- the pixel that a move brings to a point
abbrev pub brought : Sight → ℤ → ℤ → Point → Rgba
brought s dx dy p = sight_at s (point (p.x -ℤ dx) (p.y -ℤ dy))

-- what a move to a rectangle leaves at a point: the pixel that it brings, or the default pixel
abbrev pub left_at : Sight → Area → ℤ → ℤ → Point → Rgba
left_at s to dx dy p = if holds to p then brought s dx dy p else s.default_pixel

-- the moved rectangle has all that the rectangle has of the tile
abbrev pub TakesOver : Area → Key → Area → Type 0
TakesOver rect key to = (p : Point) → holds rect p ≡ true → holds (tile key) p ≡ true → holds to p ≡ true

-- what a move leaves of all that the rectangle has of the tile, as a block
abbrev pub IsLeft : Sight → Area → Key → Area → ℤ → ℤ → Piece → Type 0
IsLeft s rect key to dx dy b = IsShared rect (tile key) b.rect × IsBlock key b.rect (left_at s to dx dy) b

-- what a fill leaves at a point
abbrev pub filled : Sight → Ink → Point → Rgba
filled s ink p = compose ink.op ink.colour (sight_at s p) ink.strength

-- the strength of a dab at a distance from its centre
abbrev pub strength_at : Brush → Ink → ℤ → ℤ → ℕ
strength_at brush ink dx dy = mul (mask brush.r brush.soft dx dy) ink.strength

-- what a dab leaves at a point
abbrev pub dabbed : Sight → Brush → Ink → Point → Rgba
dabbed s brush ink p = compose ink.op ink.colour (sight_at s p) (strength_at brush ink (p.x -ℤ brush.x) (p.y -ℤ brush.y))
