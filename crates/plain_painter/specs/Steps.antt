-- Layers as what was done to them, step by step.
use Rattle.std.specs.Prelude.{ℕ, Bool, true, ◌&&◌, ◌==◌, if◌then◌else◌, List, [], ◌∷◌}
use Rattle.pixel_core.specs.Rgba.{clear}
use Rattle.geom_core.specs.Areas.{Point, point}
use Rattle.doc_model.specs.declared.job.Job.{Job}
use Rattle.doc_model.specs.Jobs.{apply, checks}
use Rattle.doc_model.specs.Layers.{Layer, plain}
use Rattle.doc_model.specs.Lawful.{within_limits}
use Rattle.plain_painter.specs.declared.spots.Spot.{Spot}
use Rattle.plain_painter.specs.declared.layer.Step.{Step}
use Rattle.plain_painter.specs.declared.layer.Deed.{Deed}
use Rattle.plain_painter.specs.declared.layer.Deed.TheVariants.{Fresh, Paint}

-- the point of a spot
abbrev pub point_of : Spot → Point
point_of s = point s.x s.y

-- the layer after what is done to it
abbrev pub done : Deed → Layer → Layer
done (Fresh pixel) layer = plain pixel
done (Paint job) layer = apply job layer

-- the layer q after one more step
abbrev pub stepped : ℕ → Step → Layer → Layer
stepped q step layer = if step.layer == q then done step.deed layer else layer

-- the layer q after these steps, the newest of them first
abbrev pub layer_after : ℕ → List Step → Layer
layer_after q [] = plain clear
layer_after q (step ∷ older) = stepped q step (layer_after q older)

-- whether a job lies in the world and meets the limits
abbrev pub job_sound : Job → Bool
job_sound job = checks job && within_limits job

-- the same of a step's job
abbrev pub deed_sound : Deed → Bool
deed_sound (Fresh pixel) = true
deed_sound (Paint job) = job_sound job

abbrev pub is_sound : Step → Bool
is_sound step = deed_sound step.deed
