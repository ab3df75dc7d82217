-- Tiles that the circle of a dab doesn't reach.
use Rattle.std.specs.Prelude.{◌≡◌, ℕ, ◌+◌, ◌*◌, ◌<◌, ◌≤◌, ℤ, pos, ◌-ℤ◌, nat_abs, true}
use Rattle.pixel_core.specs.Canonical.{IsCanonical}
use Rattle.brush_mask.specs.Mask.{distance2}
use Rattle.geom_core.specs.Areas.{Point}
use Rattle.geom_core.specs.Grid.{Key}
use Rattle.tile_core.specs.Pixels.{Pixels, pixel_at}
use Rattle.doc_model.specs.declared.job.Job.{Job}
use Rattle.doc_model.specs.Shots.{in_tile}
use Rattle.doc_model.specs.Layers.{Layer, at}
use Rattle.job_core.specs.Points.{painted_in}

-- each of the 64 numbers from a on lies at least d from n
abbrev pub LieApart : ℕ → ℕ → ℕ → Type 0
LieApart d n a = (k : ℕ) → a ≤ k → k < a + 64 → d ≤ nat_abs (pos k -ℤ pos n)

-- each point of the tile lies outside the circle of radius r round (x, y)
abbrev pub LiesOutside : Key → ℤ → ℤ → ℕ → Type 0
LiesOutside key x y r = (p : Point) → in_tile key p ≡ true → r * r < distance2 (p.x -ℤ x) (p.y -ℤ y)

-- the layer's pixels in the tile are canonical
abbrev pub AreCanonical : Key → Layer → Type 0
AreCanonical key layer = (p : Point) → in_tile key p ≡ true → IsCanonical (at layer p)

-- all pixels of a tile are canonical
abbrev pub AllCanonical : Pixels → Type 0
AllCanonical tile = (p : Point) → IsCanonical (pixel_at tile p)

-- the job leaves the tile as it is, whichever canonical pixels stand there
abbrev pub LeavesTile : Job → Key → Type 0
LeavesTile job key = (layer : Layer) → AreCanonical key layer → painted_in job key layer ≡ layer
