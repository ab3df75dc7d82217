-- When a job may be painted in a tile.
use Rattle.std.specs.Prelude.{◌≡◌, true}
use Rattle.std.specs.List.{list_any, list_all}
use Rattle.geom_core.specs.Areas.{lies_in}
use Rattle.geom_core.specs.Grid.{Key, same_key, all_keys_of}
use Rattle.tile_core.specs.Shots.{Sight}
use Rattle.doc_model.specs.declared.job.Job.{Job}
use Rattle.doc_model.specs.Jobs.{reads, writes, checks}
use Rattle.doc_model.specs.Lawful.{within_limits}

-- the job lies in the world and meets the limits, the shot has what it reads, and it writes in the key's tile
pub record IsDue (job : Job) (shot : Sight) (key : Key) : Type 0 where
  pub checked : checks job ≡ true
  pub limits : within_limits job ≡ true
  pub seen : list_all (λ a. list_any (lies_in a) shot.rects) (reads job) ≡ true
  pub met : list_any (same_key key) (all_keys_of (writes job)) ≡ true
