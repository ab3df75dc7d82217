-- The box blur. It is a rule of this engine, not of a standard.
use Rattle.std.specs.Prelude.{ℕ, ◌+◌, ◌*◌, map}
use Rattle.pixel_core.specs.Rgba.{Rgba}
use Rattle.geom_core.specs.Areas.{points_of, Point}
use Rattle.doc_model.specs.Jobs.{mean, square}
use Rattle.tile_core.specs.Shots.{Sight, sight_at}

-- the mean of a shot's pixels in the square of side 2r + 1 round a point
abbrev pub blurred : Sight → ℕ → Point → Rgba
blurred s r p = mean ((2 * r + 1) * (2 * r + 1)) (map (sight_at s) (points_of (square p.x p.y r)))
