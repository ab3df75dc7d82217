-- Tiles made whole, beside the job that is to be committed by them.
use Rattle.std.specs.Prelude.{◌≡◌, ◌||◌, Bool, true, false, List, [], ◌∷◌, map}
use Rattle.std.specs.List.{list_any}
use Rattle.std.specs.FinSet as set
use Rattle.std.specs.FinSet.{FinSet}
use Rattle.geom_core.specs.Grid.{Key, key_cmp, same_key, all_keys_of}
use Rattle.doc_model.specs.declared.job.Job.{Job}
use Rattle.doc_model.specs.Layers.{Layer}
use Rattle.doc_model.specs.Jobs.{writes}
use Rattle.whole_tiles.specs.Wholes.{Entire, Shows}

-- the tile was made of this job, from pixels that the layer shows
pub record IsOfJob (job : Job) (shot : Layer) (x : Entire) : Type 0 where
  pub of_job : x.job ≡ job
  pub shows : Shows x.needs x.base shot

-- of a job that has published some tiles, these are just the others, each once, and made of that job from what its shot shows
abbrev pub AreLacking : Job → Layer → List Key → List Entire → Type 0
AreLacking job shot published [] = (key : Key) → list_any (same_key key) (all_keys_of (writes job)) ≡ true → list_any (same_key key) published ≡ true
AreLacking job shot published (x ∷ xs) = IsOfJob job shot x × (list_any (same_key x.key) (all_keys_of (writes job)) ≡ true) × (list_any (same_key x.key) published ≡ false) × AreLacking job shot (x.key ∷ published) xs

-- whether the key is published, or in the set
abbrev pub is_seen : List Key → FinSet key_cmp → Key → Bool
is_seen published keys key = list_any (same_key key) published || set.contains keys key

-- the job writes in the key's tile, which is neither published nor in the set
pub record IsNext (job : Job) (published : List Key) (keys : FinSet key_cmp) (key : Key) : Type 0 where
  pub in_job : list_any (same_key key) (all_keys_of (writes job)) ≡ true
  pub fresh : is_seen published keys key ≡ false

-- the keys of the tiles, in their order
abbrev pub keys_of_tiles : List Entire → List Key
keys_of_tiles tiles = map (λ (x : Entire). x.key) tiles
