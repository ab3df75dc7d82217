-- What a frame shows, and its sides.
use Rattle.std.specs.Prelude.{◌≡◌, ℕ, pos, List, map}
use Rattle.geom_core.specs.Areas.{area, points_of}
use Rattle.frame_core.specs.Frames.{Scene, colours_at}

-- the colours that the frame shows, in row order
abbrev pub colours_of : Scene → List (List ℕ)
colours_of s = map (colours_at s) (points_of (area (pos 0) (pos 0) s.width s.height))

-- the frame has that many columns and rows
pub record HasSides (w h : ℕ) (s : Scene) : Type 0 where
  pub width : s.width ≡ w
  pub height : s.height ≡ h
