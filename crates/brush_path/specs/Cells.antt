-- The tiles that a track meets, and its jobs.
use Rattle.std.specs.Prelude.{Bool, List, [], map}
use Rattle.std.specs.List.{filter, list_any, reduce}
use Rattle.std.specs.Option.{option_map_or}
use Rattle.geom_core.specs.Areas.{meets}
use Rattle.geom_core.specs.Overlaps.{bound}
use Rattle.geom_core.specs.Grid.{Key, tile, keys_of}
use Rattle.doc_model.specs.declared.job.Job.{Job}
use Rattle.doc_model.specs.declared.job.Job.TheVariants as job
use Rattle.doc_model.specs.Trails.{Trail}
use Rattle.doc_model.specs.Jobs.{squares}

-- whether some dab of the track meets the tile
abbrev pub is_met : Trail → Key → Bool
is_met t k = list_any (λ a. meets a (tile k)) (squares t)

-- the tiles of the rectangle round all its dabs, in row order
abbrev pub around : Trail → List Key
around t = option_map_or keys_of (reduce bound (squares t)) []

-- those of them that some dab meets
unfoldable pub cells : Trail → List Key
cells t = filter (is_met t) (around t)

-- the job of a track in each of some tiles
abbrev pub jobs_in : Trail → List Key → List Job
jobs_in t ks = map (job.Track t) ks

-- the jobs of a track, one in each tile that its dabs meet
abbrev pub jobs : Trail → List Job
jobs t = jobs_in t (cells t)
