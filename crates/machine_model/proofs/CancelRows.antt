-- A stroke with three concurrent jobs of which none, one or two have ended as the cancel comes, by computing.
use Rattle.std.proofs.Common.{◌≡◌, ℕ, false, List, [], ◌∷◌, refl, pos}
use Rattle.pixel_core.specs.Rgba.{Rgba, rgba}
use Rattle.pixel_core.specs.declared.blending.Op.TheVariants.{Over}
use Rattle.geom_core.specs.Areas.{area}
use Rattle.geom_core.specs.Grid.{Key, key, cells}
use Rattle.doc_model.specs.declared.canvas.Canvas.{Canvas}
use Rattle.doc_model.specs.declared.job.Job.{Job}
use Rattle.doc_model.specs.declared.job.Job.TheVariants.{Fill}
use Rattle.doc_model.specs.declared.job.Kind.TheVariants.{Con}
use Rattle.doc_model.specs.declared.command.Command.TheVariants as command
use Rattle.doc_model.specs.declared.command.Outcome.TheVariants.{Done, Cancelled}
use Rattle.doc_model.specs.declared.tree.Change.TheVariants as change
use Rattle.doc_model.specs.Layers.{plain}
use Rattle.doc_model.specs.Forest.{none, paint}
use Rattle.doc_model.specs.Changes.{new_look}
use Rattle.doc_model.specs.Updates.{queued, refreshed}
use Rattle.doc_model.specs.Strokes.{conflict}
use Rattle.machine_model.specs.State.{State, new_state}
use Rattle.machine_model.specs.Event.{Event, Feed, Init, Start, Publish, End, Cancel, Act}
use Rattle.machine_model.proofs.RunChains.{Chain, ◌▸◌, ends}

red : Rgba
red = rgba 255 0 0 255

green : Rgba
green = rgba 0 255 0 255

wide : Canvas
wide = record { w = 3; h = 1; paper = rgba 255 255 255 255 }

fill : ℕ → Job
fill x = Fill (area (pos x) (pos 0) 1 1) green Over 255

tile : Key
tile = key (pos 0) (pos 0)

-- a red layer comes, and a stroke begins on it
before : List Event
before = Feed (command.Change (change.Layer 1 0 0 red))
    ∷ Act
    ∷ Feed (command.Stroke 1 1 false)
    ∷ Feed (command.Add 1 Con (fill 0))
    ∷ Feed (command.Add 1 Con (fill 1))
    ∷ Feed (command.Add 1 Con (fill 2))
    ∷ Init
    ∷ []

begun : (s : State) × Chain before (new_state wide 2) s
unfolding before wide fill red green conflict queued refreshed cells
begun = (
  _,
  record { step = (refl, refl) }
      ▸ record { step = record { entry = _; at_head = refl; no_stroke = refl; no_walks = refl; clean = λ e. cc; new_is = refl } }
      ▸ record { step = (refl, refl) }
      ▸ record { step = (refl, refl) }
      ▸ record { step = (refl, refl) }
      ▸ record { step = (refl, refl) }
      ▸ record { step = record { stroke = _; at_head = refl; not_begun = refl; not_cancelled = refl; no_overlap = refl; on_paint = refl; alone = λ e. refl; new_is = refl } }
      ▸ ends,
)

-- the document from before the stroke, and the stroke's outcome
abbrev IsPutBack : State → Type 0
IsPutBack s = (s.present ≡ paint 1 new_look (plain red) none) × (s.base ≡ paint 1 new_look (plain red) none) × (s.outcomes ≡ Done ∷ Cancelled ∷ [])

none_ended : (s : State) × Chain (Start 0 ∷ Feed (command.Cancel 1) ∷ Publish 0 tile ∷ End 0 ∷ Cancel ∷ []) begun.0 s × IsPutBack s
unfolding begun before wide fill red green tile conflict queued refreshed cells
none_ended = (
  _,
  record { step = record { stroke = _; at_head = refl; next = 0; begun = refl; not_cancelled = refl; no_overlap = refl; free = refl; job = (Con, fill 0); is_next = refl; unblocked = refl; barrier = λ e f. cc; new_is = refl } }
      ▸ record { step = (refl, refl) }
      ▸ record { step = record { painter = _; runs = refl; in_job = refl; fresh = refl; stroke = _; at_head = refl; new_is = refl } }
      ▸ record { step = record { painter = _; runs = refl; all = λ k h. h; stroke = _; at_head = refl; new_is = refl } }
      ▸ record { step = record { stroke = _; at_head = refl; closed = refl; refused = refl; idle = refl; new_is = refl } }
      ▸ ends,
  (refl, refl, refl),
)

one_ended : (s : State) × Chain (Start 0 ∷ Publish 0 tile ∷ End 0 ∷ Start 1 ∷ Feed (command.Cancel 1) ∷ Publish 1 tile ∷ End 1 ∷ Cancel ∷ []) begun.0 s × IsPutBack s
unfolding begun before wide fill red green tile conflict queued refreshed cells
one_ended = (
  _,
  record { step = record { stroke = _; at_head = refl; next = 0; begun = refl; not_cancelled = refl; no_overlap = refl; free = refl; job = (Con, fill 0); is_next = refl; unblocked = refl; barrier = λ e f. cc; new_is = refl } }
      ▸ record { step = record { painter = _; runs = refl; in_job = refl; fresh = refl; stroke = _; at_head = refl; new_is = refl } }
      ▸ record { step = record { painter = _; runs = refl; all = λ k h. h; stroke = _; at_head = refl; new_is = refl } }
      ▸ record { step = record { stroke = _; at_head = refl; next = 1; begun = refl; not_cancelled = refl; no_overlap = refl; free = refl; job = (Con, fill 1); is_next = refl; unblocked = refl; barrier = λ e f. cc; new_is = refl } }
      ▸ record { step = (refl, refl) }
      ▸ record { step = record { painter = _; runs = refl; in_job = refl; fresh = refl; stroke = _; at_head = refl; new_is = refl } }
      ▸ record { step = record { painter = _; runs = refl; all = λ k h. h; stroke = _; at_head = refl; new_is = refl } }
      ▸ record { step = record { stroke = _; at_head = refl; closed = refl; refused = refl; idle = refl; new_is = refl } }
      ▸ ends,
  (refl, refl, refl),
)

two_ended : (s : State) × Chain (Start 0 ∷ Start 1 ∷ Publish 0 tile ∷ Publish 1 tile ∷ End 0 ∷ End 1 ∷ Start 0 ∷ Feed (command.Cancel 1) ∷ Publish 0 tile ∷ End 0 ∷ Cancel ∷ []) begun.0 s × IsPutBack s
unfolding begun before wide fill red green tile conflict queued refreshed cells
two_ended = (
  _,
  record { step = record { stroke = _; at_head = refl; next = 0; begun = refl; not_cancelled = refl; no_overlap = refl; free = refl; job = (Con, fill 0); is_next = refl; unblocked = refl; barrier = λ e f. cc; new_is = refl } }
      ▸ record { step = record { stroke = _; at_head = refl; next = 1; begun = refl; not_cancelled = refl; no_overlap = refl; free = refl; job = (Con, fill 1); is_next = refl; unblocked = refl; barrier = λ e f. cc; new_is = refl } }
      ▸ record { step = record { painter = _; runs = refl; in_job = refl; fresh = refl; stroke = _; at_head = refl; new_is = refl } }
      ▸ record { step = record { painter = _; runs = refl; in_job = refl; fresh = refl; stroke = _; at_head = refl; new_is = refl } }
      ▸ record { step = record { painter = _; runs = refl; all = λ k h. h; stroke = _; at_head = refl; new_is = refl } }
      ▸ record { step = record { painter = _; runs = refl; all = λ k h. h; stroke = _; at_head = refl; new_is = refl } }
      ▸ record { step = record { stroke = _; at_head = refl; next = 2; begun = refl; not_cancelled = refl; no_overlap = refl; free = refl; job = (Con, fill 2); is_next = refl; unblocked = refl; barrier = λ e f. cc; new_is = refl } }
      ▸ record { step = (refl, refl) }
      ▸ record { step = record { painter = _; runs = refl; in_job = refl; fresh = refl; stroke = _; at_head = refl; new_is = refl } }
      ▸ record { step = record { painter = _; runs = refl; all = λ k h. h; stroke = _; at_head = refl; new_is = refl } }
      ▸ record { step = record { stroke = _; at_head = refl; closed = refl; refused = refl; idle = refl; new_is = refl } }
      ▸ ends,
  (refl, refl, refl),
)
