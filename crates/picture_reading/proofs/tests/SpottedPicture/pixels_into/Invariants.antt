use Rattle.std.specs.Prelude.{◌==◌, if◌then◌else◌}
use Rattle.std.proofs.Common.{◌≡◌, ℕ, ◌+◌, ◌<◌, ◌&&◌, get_or}
use Rattle.pixel_core.specs.Rgba.{clear}
use Rattle.picture_reading.proofs.tests.SpottedPicture.pixels_into.Given as goal

-- the pixels so far stand there
abbrev pub invariant-loop-k : goal.invariant-loop-k
invariant-loop-k l = (j : ℕ) → j < l.k → get_or l.out j clear ≡ (if ((l.x + j) == l.self.spot.0) && (l.y == l.self.spot.1) then l.self.there else l.self.field)
