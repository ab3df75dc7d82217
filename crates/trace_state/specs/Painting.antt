-- A job at work, without pixels.
use Rattle.std.specs.Prelude.{ℕ, Bool, ◌&&◌, not, refl}
use Rattle.std.specs.List.{list_any}
use Rattle.std.specs.FinSet as set
use Rattle.std.specs.FinSet.{FinSet}
use Rattle.std.specs.Coded.{Coded, code_by, coded×, coded_ℕ}
use Rattle.geom_core.specs.Grid.{Key, key_cmp, same_key, all_keys_of}
use Rattle.geom_core.specs.Keys.{key_code}
use Rattle.doc_model.specs.declared.job.Job.{Job}
use Rattle.doc_model.specs.contracts.job.Job as job_row
use Rattle.doc_model.specs.Jobs.{writes}
use Rattle.trace_state.specs.Tiles.{has_all}

-- a job at work: its index in its stroke's list, from 0, and the tiles that it has published
pub record Painting : Type 0 where
  pub index : ℕ
  pub job : Job
  pub published : FinSet key_cmp

-- whether the tile is one of the job's, still to be published
abbrev pub lacks_tile : Painting → Key → Bool
lacks_tile w key = list_any (same_key key) (all_keys_of (writes w.job)) && not (set.contains w.published key)

-- the job with the tile published
abbrev pub with_tile : Painting → Key → Painting
with_tile w key = record w { published = set.insert w.published key }

-- whether all its tiles are published
abbrev pub is_painted : Painting → Bool
is_painted w = has_all w.published (all_keys_of (writes w.job))

-- the code by which contracts tell jobs at work apart
abbrev pub painting_code : Coded Painting
painting_code = code_by (ℕ × (Job × FinSet key_cmp)) (coded× coded_ℕ (coded× (job_row.the_row).coded (set.code key_code))) (λ w. (w.index, (w.job, w.published))) (λ t. record { index = t.0; job = t.1.0; published = t.1.1 }) (λ _. refl)
