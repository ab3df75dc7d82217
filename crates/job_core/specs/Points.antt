-- Point operations: jobs that make each pixel from what stood at that very point, as fills, dabs and tracks do.
use Rattle.std.specs.Prelude.{◌≡◌, ◌≤◌, ◌&&◌, Bool, true, false, [], ◌∷◌, length, All, refl}
use Rattle.std.specs.List.{list_any, list_all, take_while}
use Rattle.std.specs.Coded.{Coded, code_by, coded×, coded_list}
use Rattle.geom_core.specs.Areas.{Area, lies_in, Point}
use Rattle.geom_core.specs.Grid.{Key, same_key, all_keys_of, tile}
use Rattle.geom_core.specs.Keys.{key_code, IsWorldKey}
use Rattle.tile_core.specs.Pixels.{Pixels, pixel_at}
use Rattle.doc_model.specs.contracts.job.Job as job
use Rattle.doc_model.specs.contracts.job.Kind as kind
use Rattle.doc_model.specs.declared.job.Job.{Job}
use Rattle.doc_model.specs.declared.job.Job.TheVariants.{Fill, Dab, Move, Blur, Track}
use Rattle.doc_model.specs.Shots.{in_tile, published}
use Rattle.doc_model.specs.Lawful.{within_limits}
use Rattle.doc_model.specs.Jobs.{checks, apply, writes}
use Rattle.doc_model.specs.Layers.{Layer, at}
use Rattle.doc_model.specs.Strokes.{Jobs}

-- whether a job makes each pixel from that pixel alone
abbrev pub is_point_op : Job → Bool
is_point_op (Fill rect colour op strength) = true
is_point_op (Dab x y r soft colour op strength) = true
is_point_op (Move rect dx dy) = false
is_point_op (Blur rect r) = false
is_point_op (Track t cell) = true

-- whether a job is a point operation that writes within a rectangle alone
abbrev pub is_within : Area → Job → Bool
is_within a job = is_point_op job && list_all (λ r. lies_in r a) (writes job)

-- the layer after a job was painted in one tile, from what stands there
abbrev pub painted_in : Job → Key → Layer → Layer
painted_in job key layer = published job layer key layer

-- the layer after jobs were painted in one tile, the first of them first
abbrev pub all_painted_in : Jobs → Key → Layer → Layer
all_painted_in [] key layer = layer
all_painted_in (j ∷ jobs) key layer = all_painted_in jobs key (painted_in j.1 key layer)

-- jobs with their kinds, and a tile's key
pub record Spot : Type 0 where
  pub jobs : Jobs
  pub key : Key

-- these parts together
abbrev pub spot : Jobs → Key → Spot
spot js k = record { jobs = js; key = k }

-- a point operation that lies in the world and meets the limits, and writes in a tile
pub record IsPointJob (key : Key) (job : Job) : Type 0 where
  pub point_op : is_point_op job ≡ true
  pub checked : checks job ≡ true
  pub limits : within_limits job ≡ true
  pub met : list_any (same_key key) (all_keys_of (writes job)) ≡ true

-- a tile of the world, and point operations that all write in it
pub record IsPointWork (w : Spot) : Type 0 where
  pub world : IsWorldKey w.key
  pub each : All (λ j. IsPointJob w.key j.1) w.jobs

-- a tile, and at least one of some jobs: as many from the front on as are point operations that write within that tile alone
pub record IsRun (jobs : Jobs) (w : Spot) : Type 0 where
  pub some : 1 ≤ length w.jobs
  pub front : w.jobs ≡ take_while (λ j. is_within (tile w.key) j.1) jobs

-- a layer has a tile's pixels at the points of the key's tile
abbrev pub HasTile : Key → Pixels → Layer → Type 0
HasTile key tile layer = (p : Point) → in_tile key p ≡ true → at layer p ≡ pixel_at tile p

-- whichever layer has the old tile's pixels there has the new one's after the job
abbrev pub LaysJob : Key → Job → Pixels → Pixels → Type 0
LaysJob key job old new = (layer : Layer) → HasTile key old layer → HasTile key new (apply job layer)

-- whichever layer has the old tile's pixels there has the new one's after all of the jobs were painted there
abbrev pub LaysPoints : Spot → Pixels → Pixels → Type 0
LaysPoints w old new = (layer : Layer) → HasTile w.key old layer → HasTile w.key new (all_painted_in w.jobs w.key layer)

-- the code by which contracts tell jobs with keys apart
abbrev pub spot_code : Coded Spot
spot_code = code_by (Jobs × Key) (coded× (coded_list (coded× (kind.the_row).coded (job.the_row).coded)) key_code) (λ w. (w.jobs, w.key)) (λ t. spot t.0 t.1) (λ _. refl)
