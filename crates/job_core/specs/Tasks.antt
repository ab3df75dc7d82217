-- Jobs with their inks and brushes.
use Rattle.geom_core.specs.Areas.{Area}
use Rattle.doc_model.specs.declared.job.Job.{Job}
use Rattle.doc_model.specs.declared.job.Job.TheVariants as job
use Rattle.job_core.specs.declared.ink.Ink.{Ink}
use Rattle.job_core.specs.declared.dabs.Brush.{Brush}
use Rattle.job_core.specs.declared.task.Task.{Task}
use Rattle.job_core.specs.declared.task.Task.TheVariants.{Fill, Dab, Move, Blur, Track}

-- the fill of a rectangle with an ink
abbrev pub fill_of : Area → Ink → Job
fill_of rect ink = job.Fill rect ink.colour ink.op ink.strength

-- the dab of a brush with an ink
abbrev pub dab_of : Brush → Ink → Job
dab_of brush ink = job.Dab brush.x brush.y brush.r brush.soft ink.colour ink.op ink.strength

-- the job that a task is
abbrev pub job_of : Task → Job
job_of (Fill rect ink) = fill_of rect ink
job_of (Dab brush ink) = dab_of brush ink
job_of (Move rect dx dy) = job.Move rect dx dy
job_of (Blur rect r) = job.Blur rect r
job_of (Track track cell) = job.Track track cell
