-- The stroke under way: which of its jobs were started, what each was started with, and what its layer shows.
use Rattle.std.specs.Prelude.{◌≡◌, ℕ, suc, zero, ◌<◌, ◌≤◌, Bool, true, false, ◌&&◌, if◌then◌else◌, Option, Some, None, List, [], ◌∷◌, map, length, take, slice_get}
use Rattle.std.specs.List.{AllByRecursion}
use Rattle.pixel_core.specs.Rgba.{Rgba}
use Rattle.geom_core.specs.Areas.{Area, Point}
use Rattle.geom_core.specs.Rects.{any_holds}
use Rattle.geom_core.specs.Grid.{Key, key_of}
use Rattle.doc_model.specs.declared.job.Job.{Job}
use Rattle.doc_model.specs.declared.job.Kind.{Kind}
use Rattle.doc_model.specs.Layers.{Layer, at}
use Rattle.doc_model.specs.Jobs.{reads, writes, apply_all}
use Rattle.doc_model.specs.Shots.{shot_of}
use Rattle.doc_model.specs.Forest.{content, with_content}
use Rattle.doc_model.specs.Strokes.{Jobs, Stroke, one_run, is_uni}
use Rattle.machine_model.specs.State.{Slot, Free, Paints, Walks, State, head_stroke}
use Rattle.machine_model.specs.Slots.{no_painter}
use Rattle.machine_model.specs.Painters.{painter_in, runs_in, done}
use Rattle.machine_model.specs.Guards.{kept_jobs}

-- the jobs without their kinds
abbrev pub jobs_only : Jobs → List Job
jobs_only jobs = map (λ (j : Kind × Job). j.1) jobs

-- no stroke is under way
pub record AtRest (s : State) : Type 0 where
  pub same : s.present ≡ s.base
  pub idle : no_painter s ≡ true

-- what stands in a slot is one of the n started jobs, with its index
abbrev pub SlotIsStarted : Jobs → ℕ → Slot → Type 0
SlotIsStarted jobs n (Paints w) = (w.index < n) × (k : Kind) × (slice_get jobs w.index ≡ Some (k, w.job))
SlotIsStarted jobs n slot = Unit {0}

-- no two slots hold the job of one index
abbrev pub Once : List Slot → Type 0
Once [] = Unit {0}
Once (Paints w ∷ slots) = (painter_in w.index slots ≡ None) × Once slots
Once (Free ∷ slots) = Once slots
Once (Walks w ∷ slots) = Once slots

-- whether the jobs with these indices are both uniquely concurrent
abbrev pub both_uni : Jobs → ℕ → ℕ → Bool
both_uni jobs i j = both (slice_get jobs i) (slice_get jobs j)
  where
    both : Option (Kind × Job) → Option (Kind × Job) → Bool
    both (Some a) (Some b) = is_uni a.0 && is_uni b.0
    both (Some a) None = false
    both None b = false

-- a job at work and a later one stand in one run, and are not both uniquely concurrent
abbrev pub MayOverlap : Jobs → ℕ → List Slot → Type 0
MayOverlap jobs n slots = (i j : ℕ) → i < j → j < n → runs_in i slots ≡ true → (one_run jobs i j ≡ true) × (both_uni jobs i j ≡ false)

-- base's layer after the first j jobs
abbrev pub after_jobs : Jobs → Layer → ℕ → Layer
after_jobs jobs layer j = apply_all (take j (jobs_only jobs)) layer

-- the rectangles that the job with that index may change
abbrev pub writes_at : Jobs → ℕ → List Area
writes_at jobs j = writes_in (slice_get jobs j)
  where
    writes_in : Option (Kind × Job) → List Area
    writes_in None = []
    writes_in (Some k) = writes k.1

-- what stands at a point once the first n jobs were started: the value after the last of those whose writes hold the point and whose tile is done
abbrev pub shown : Jobs → Layer → (ℕ → Key → Bool) → ℕ → Point → Rgba
shown jobs layer is_done zero p = at layer p
shown jobs layer is_done (suc j) p =
    if any_holds (writes_at jobs j) p && is_done j (key_of p)
    then at (after_jobs jobs layer (suc j)) p
    else shown jobs layer is_done j p

-- a job at work was started with what the jobs before it leave on its reads
abbrev pub ShotIsRight : Jobs → Layer → Slot → Type 0
ShotIsRight jobs layer (Paints w) = w.shot ≡ shot_of (reads w.job) (after_jobs jobs layer w.index)
ShotIsRight jobs layer slot = Unit {0}

-- the shots, and the pixels of the layer
pub record PixelsAre (jobs : Jobs) (base_layer layer : Layer) (n : ℕ) (slots : List Slot) : Type 0 where
  pub shots : AllByRecursion (ShotIsRight jobs base_layer) slots
  pub default_pixel : layer.default_pixel ≡ base_layer.default_pixel
  pub pixels : (p : Point) → at layer p ≡ shown jobs base_layer (done slots) n p

-- the stroke under way, n jobs of which were started
pub record UnderWay (s : State) (n : ℕ) : Type 0 where
  pub stroke : Stroke
  pub at_head : head_stroke s ≡ Some stroke
  pub base_layer : Layer
  pub was : content stroke.layer s.base ≡ Some base_layer
  pub layer : Layer
  pub is : s.present ≡ with_content stroke.layer layer s.base
  pub few : n ≤ length (kept_jobs stroke)
  pub started : AllByRecursion (SlotIsStarted (kept_jobs stroke) n) s.slots
  pub once : Once s.slots
  pub overlap : MayOverlap (kept_jobs stroke) n s.slots
  pub painted : PixelsAre (kept_jobs stroke) base_layer layer n s.slots

-- a state at rest, or with a stroke under way
abbrev pub IsOnWay : State → Option ℕ → Type 0
IsOnWay s None = AtRest s
IsOnWay s (Some n) = UnderWay s n
