-- What is at work in the slots.
use Rattle.std.specs.Prelude.{◌≡◌, ℕ, Bool, true, false, Option, Some, None, Result, Ok, Err}
use Rattle.geom_core.specs.Areas.{Area, meets}
use Rattle.geom_core.specs.Grid.{Key}
use Rattle.geom_core.specs.declared.NoMemory.{NoMemory}
use Rattle.doc_model.specs.declared.job.Kind.{Kind}
use Rattle.doc_model.specs.Strokes.{Jobs}
use Rattle.machine_model.specs.Guards.{excludes, kind_at}
use Rattle.machine_model.specs.Next.{when}
use Rattle.trace_state.specs.Painting.{lacks_tile, with_tile}
use Rattle.trace_state.specs.Walking.{lacks_pair, with_pair}
use Rattle.trace_state.specs.declared.slot.Slot.{Slot}
use Rattle.trace_state.specs.declared.slot.Slot.TheVariants.{Free, Paints, Walks}

abbrev pub is_free : Slot → Bool
is_free Free = true
is_free (Paints w) = false
is_free (Walks w) = false

abbrev pub is_painter : Slot → Bool
is_painter Free = false
is_painter (Paints w) = true
is_painter (Walks w) = false

abbrev pub is_walker : Slot → Bool
is_walker Free = false
is_walker (Paints w) = false
is_walker (Walks w) = true

-- whether a job of this kind may not run beside what stands in the slot
abbrev pub blocks : Jobs → Kind → Slot → Bool
blocks jobs kind Free = false
blocks jobs kind (Paints w) = excludes kind (kind_at jobs w.index)
blocks jobs kind (Walks w) = false

-- whether it is a walk whose patch meets the rectangle
abbrev pub meets_walker : Area → Slot → Bool
meets_walker rect Free = false
meets_walker rect (Paints w) = false
meets_walker rect (Walks w) = meets rect w.patch.rect

-- the slot once a tile of the job that stands there was published, where it may be
abbrev pub published_in : Key → Slot → Option Slot
published_in key Free = None
published_in key (Paints w) = when (lacks_tile w key) (Paints (with_tile w key))
published_in key (Walks w) = None

-- the slot once a tile of a group was composed by the walk that stands there, where it may be
abbrev pub composed_in : ℕ → Key → Slot → Option Slot
composed_in g key Free = None
composed_in g key (Paints w) = None
composed_in g key (Walks w) = when (lacks_pair w g key) (Walks (with_pair w g key))

-- the answer to what leaves that in a slot, or may not happen
abbrev pub SlotFollows : Result Bool NoMemory → Option Slot → Slot → Slot → Type 0
SlotFollows (Ok true) next old new = next ≡ Some new
SlotFollows (Ok false) next old new = (next ≡ None) × (new ≡ old)
SlotFollows (Err e) next old new = Unit {0}
