-- A job that is to be painted tile by tile.
use Rattle.std.specs.Prelude.{◌≡◌, ◌++◌, Bool, true, not, List, [], ◌∷◌, refl}
use Rattle.std.specs.List.{list_any, list_all, filter}
use Rattle.std.specs.Coded.{Coded, code_by, coded×}
use Rattle.geom_core.specs.Areas.{Area, lies_in, meets}
use Rattle.geom_core.specs.Grid.{Key, keys_of, tile}
use Rattle.tile_core.specs.Shots.{Sight, sight_code}
use Rattle.doc_model.specs.contracts.job.Job as job
use Rattle.doc_model.specs.declared.job.Job.{Job}
use Rattle.doc_model.specs.Jobs.{checks, reads, writes}
use Rattle.doc_model.specs.Lawful.{within_limits}

-- whether none of the rectangles has points in the tile
abbrev pub is_apart : List Area → Key → Bool
is_apart areas k = not (list_any (λ a. meets a (tile k)) areas)

-- those of the keys that none of the rectangles meets stand behind the others
abbrev pub AddsApart : List Area → List Key → List Key → List Key → Type 0
AddsApart before keys old new = new ≡ old ++ filter (is_apart before) keys

-- the tiles of one rectangle after another, but those that some rectangle before it meets
abbrev pub tiles_from : List Area → List Area → List Key
tiles_from before [] = []
tiles_from before (a ∷ rest) = filter (is_apart before) (keys_of a) ++ tiles_from (before ++ a ∷ []) rest

-- the tiles that a job writes, each once
abbrev pub tiles_of : Job → List Key
tiles_of job = tiles_from [] (writes job)

-- a job, and the shot of what it reads
pub record Plan : Type 0 where
  pub job : Job
  pub shot : Sight

-- these parts together
abbrev pub plan : Job → Sight → Plan
plan j s = record { job = j; shot = s }

-- the job lies in the world and meets the limits, and the shot has what it reads
pub record IsPlan (p : Plan) : Type 0 where
  pub checked : checks p.job ≡ true
  pub limits : within_limits p.job ≡ true
  pub seen : list_all (λ a. list_any (lies_in a) p.shot.rects) (reads p.job) ≡ true

-- the same, and these are the tiles that the job writes
pub record IsPlanned (p : Plan) (keys : List Key) : Type 0 where
  pub plan : IsPlan p
  pub tiles : keys ≡ tiles_of p.job

-- the code by which contracts tell plans apart
abbrev pub plan_code : Coded Plan
plan_code = code_by (Job × Sight) (coded× (job.the_row).coded sight_code) (λ p. (p.job, p.shot)) (λ t. plan t.0 t.1) (λ _. refl)
