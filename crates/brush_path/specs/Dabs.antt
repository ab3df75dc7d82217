-- The dabs of a track as jobs.
use Rattle.std.specs.Prelude.{List, map}
use Rattle.geom_core.specs.Areas.{Point}
use Rattle.doc_model.specs.declared.job.Job.{Job}
use Rattle.doc_model.specs.declared.job.Job.TheVariants as job
use Rattle.doc_model.specs.declared.track.Stamp.{Stamp}
use Rattle.doc_model.specs.Trails.{Trail, centres}

-- the dab round a point
abbrev pub dab_at : Stamp → Point → Job
dab_at s c = job.Dab c.x c.y s.r s.soft s.colour s.op s.strength

-- the dabs of a track, the first of them first
abbrev pub dabs : Trail → List Job
dabs t = map (dab_at t.stamp) (centres t)
