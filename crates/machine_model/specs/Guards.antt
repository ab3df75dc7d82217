-- The tests that guards are made of.
use Rattle.std.specs.Prelude.{ℕ, ◌==◌, Bool, true, false, ◌||◌, ◌&&◌, Option, Some, None, is_some, slice_get}
use Rattle.geom_core.specs.Areas.{Area, meets}
use Rattle.geom_core.specs.Grid.{Key, same_key}
use Rattle.doc_model.specs.declared.job.Kind.{Kind}
use Rattle.doc_model.specs.declared.job.Kind.TheVariants.{Con, Seq, Bar, Uni}
use Rattle.doc_model.specs.declared.job.Job.{Job}
use Rattle.doc_model.specs.Forest.{content}
use Rattle.doc_model.specs.Picture.{Doc}
use Rattle.doc_model.specs.Strokes.{Jobs, Stroke, Fate, Open, Ended, Cancelled, conflict}
use Rattle.doc_model.specs.Kept.{kept}
use Rattle.machine_model.specs.State.{Slot, Paints, Walks}

-- the jobs that a stroke may start
abbrev pub kept_jobs : Stroke → Jobs
kept_jobs stroke = kept stroke.jobs

-- whether the stroke was closed by cancel
abbrev pub is_cancelled : Stroke → Bool
is_cancelled stroke = fate_cancelled stroke.fate
  where
    fate_cancelled : Fate → Bool
    fate_cancelled Open = false
    fate_cancelled Ended = false
    fate_cancelled Cancelled = true

-- whether the stroke was closed by end
abbrev pub is_ended : Stroke → Bool
is_ended stroke = fate_ended stroke.fate
  where
    fate_ended : Fate → Bool
    fate_ended Open = false
    fate_ended Ended = true
    fate_ended Cancelled = false

-- whether the stroke was closed
abbrev pub is_closed : Stroke → Bool
is_closed stroke = is_ended stroke || is_cancelled stroke

-- whether jobs of the stroke conflict
abbrev pub overlaps : Stroke → Bool
overlaps stroke = is_some (conflict stroke.jobs)

-- whether the document has such a paint layer
abbrev pub is_paint : ℕ → Doc → Bool
is_paint id doc = is_some (content id doc)

-- the kind of a running job, by its index
abbrev pub kind_at : Jobs → ℕ → Option Kind
kind_at jobs i = kind_of (slice_get jobs i)
  where
    kind_of : Option (Kind × Job) → Option Kind
    kind_of None = None
    kind_of (Some j) = Some j.0

-- whether a job of the first kind may not run beside one of the second
abbrev pub excludes : Kind → Option Kind → Bool
excludes Con (Some Seq) = true
excludes Con (Some Bar) = true
excludes Uni (Some Seq) = true
excludes Uni (Some Bar) = true
excludes Uni (Some Uni) = true
excludes Seq k = true
excludes Bar k = true
excludes a k = false

-- whether a job of this kind may not run beside what stands in the slot
abbrev pub blocks : Jobs → Kind → Slot → Bool
blocks jobs kind (Paints w) = excludes kind (kind_at jobs w.index)
blocks jobs kind slot = false

-- whether a job is a barrier
abbrev pub is_bar : Kind → Bool
is_bar Bar = true
is_bar kind = false

-- whether an exclusive stroke is under way
abbrev pub is_exclusive : Option Stroke → Option ℕ → Bool
is_exclusive (Some stroke) (Some n) = stroke.exclusive
is_exclusive stroke way = false

-- whether a running walk's patch meets the rectangle
abbrev pub meets_walker : Area → Slot → Bool
meets_walker rect (Walks w) = meets rect w.patch.rect
meets_walker rect slot = false

-- whether it is the pair of that group and tile
abbrev pub same_pair : ℕ → Key → ℕ × Key → Bool
same_pair g key e = (e.0 == g) && same_key key e.1
