-- The pixels that a tile of a job was made from, beside those that stand on the layer: where no other job can have changed them, they are the same.
use Rattle.std.specs.Prelude.{◌≡◌, ◌≤◌, ◌<◌, ℕ, All, true, false, Some, List, slice_get}
use Rattle.std.specs.List.{list_any}
use Rattle.pixel_core.specs.Rgba.{Rgba}
use Rattle.geom_core.specs.Areas.{Point}
use Rattle.geom_core.specs.Rects.{any_holds}
use Rattle.geom_core.specs.Grid.{Key, key_of, same_key, all_keys_of}
use Rattle.tile_core.specs.Shots.{sight_at}
use Rattle.doc_model.specs.declared.job.Job.{Job}
use Rattle.doc_model.specs.Forest.{content}
use Rattle.doc_model.specs.Jobs.{writes}
use Rattle.doc_model.specs.Layers.{Layer, at}
use Rattle.doc_model.specs.Shots.{in_tile}
use Rattle.doc_model.specs.Strokes.{Jobs, Stroke}
use Rattle.whole_tiles.specs.Wholes.{Entire}
use Rattle.machine_model.specs.State.{State, Painter, Slot, Paints, head_stroke}
use Rattle.machine_model.specs.Effects.{layer_in}
use Rattle.machine_model.specs.Guards.{kept_jobs}
use Rattle.machine_model.specs.UnderWay.{writes_at, after_jobs}

-- each job at work has this index or a later one
abbrev pub AreFrom : ℕ → List Slot → Type 0
AreFrom since slots = (place : ℕ) (w : Painter) → slice_get slots place ≡ Some (Paints w) → since ≤ w.index

-- no job from the one with the index `since` on to before n, but the one with the index i, may change the point
abbrev pub Spared : Jobs → ℕ → ℕ → ℕ → Point → Type 0
Spared jobs since i n p = (j : ℕ) → since ≤ j → j < n → (j ≡ i → ⊥) → any_holds (writes_at jobs j) p ≡ false

-- of the stroke at the head no started job from the one with the index `since` on, but the one with the index i, may change a point of the tile
abbrev pub SparesTile : State → ℕ → ℕ → Key → Type 0
SparesTile s since i key = (stroke : Stroke) → head_stroke s ≡ Some stroke → (n : ℕ) → s.way ≡ Some n → (p : Point) → in_tile key p ≡ true → Spared (kept_jobs stroke) since i n p

-- at the points of the tiles that the job writes in, the pixels are those that the jobs before it leave of the layer, but where a job that may not have been done by then writes
abbrev pub ShowsBefore : Jobs → Layer → ℕ → ℕ → Job → (Point → Rgba) → Type 0
ShowsBefore jobs base since i job pixels = (p : Point) → list_any (same_key (key_of p)) (all_keys_of (writes job)) ≡ true → Spared jobs since i i p → pixels p ≡ at (after_jobs jobs base i) p

-- so it is at the points of the tile x, if the job writes in it
abbrev pub IsPrior : Jobs → Layer → ℕ → ℕ → Job → Entire → Type 0
IsPrior jobs base since i job x = (p : Point) → in_tile x.key p ≡ true → list_any (same_key x.key) (all_keys_of (writes job)) ≡ true → Spared jobs since i i p → sight_at x.base p ≡ at (after_jobs jobs base i) p

-- if the job with that serial is at work in the slot, so it is of each of the tiles
abbrev pub ArePrior : State → ℕ → ℕ → ℕ → List Entire → Type 0
ArePrior s place serial since tiles = (w : Painter) → slice_get s.slots place ≡ Some (Paints w) → w.serial ≡ serial → (stroke : Stroke) → head_stroke s ≡ Some stroke → (base : Layer) → content stroke.layer s.base ≡ Some base → All (IsPrior (kept_jobs stroke) base since w.index w.job) tiles

-- if a job is at work in the slot, so it is of this tile
abbrev pub IsPriorAt : State → ℕ → ℕ → Entire → Type 0
IsPriorAt s place since x = (w : Painter) → slice_get s.slots place ≡ Some (Paints w) → (stroke : Stroke) → head_stroke s ≡ Some stroke → (base : Layer) → content stroke.layer s.base ≡ Some base → IsPrior (kept_jobs stroke) base since w.index w.job x

-- the layer of the stroke at the head has the pixels that the tile was made from
abbrev pub StandsAs : State → Entire → Type 0
StandsAs s x = (stroke : Stroke) → head_stroke s ≡ Some stroke → (p : Point) → in_tile x.key p ≡ true → sight_at x.base p ≡ at (layer_in stroke.layer s.present) p
