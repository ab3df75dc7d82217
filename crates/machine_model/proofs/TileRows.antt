-- Two jobs that publish into one tile, in both orders, by computing.
use Rattle.std.proofs.Common.{◌≡◌, false, List, [], ◌∷◌, Some, refl, pos}
use Rattle.pixel_core.specs.Rgba.{Rgba, rgba, clear}
use Rattle.pixel_core.specs.Compose.{compose, mul}
use Rattle.pixel_core.specs.declared.blending.Op.TheVariants.{Over}
use Rattle.geom_core.specs.Areas.{area, point}
use Rattle.geom_core.specs.Grid.{Key, key, cells}
use Rattle.doc_model.specs.declared.canvas.Canvas.{Canvas}
use Rattle.doc_model.specs.declared.job.Job.{Job}
use Rattle.doc_model.specs.declared.job.Job.TheVariants.{Fill}
use Rattle.doc_model.specs.declared.job.Kind.TheVariants.{Con}
use Rattle.doc_model.specs.declared.command.Command.TheVariants as command
use Rattle.doc_model.specs.declared.tree.Change.TheVariants as change
use Rattle.doc_model.specs.Layers.{Layer, at}
use Rattle.doc_model.proofs.LayerLaws.{at-plain}
use Rattle.doc_model.specs.Forest.{content}
use Rattle.doc_model.specs.Updates.{queued, refreshed}
use Rattle.doc_model.specs.Strokes.{conflict}
use Rattle.doc_model.proofs.Shots.{at-published, at-shot_of}
use Rattle.doc_model.proofs.JobLaws.{at-apply}
use Rattle.machine_model.specs.State.{State, new_state}
use Rattle.machine_model.specs.Event.{Event, Feed, Init, Start, Publish, Act}
use Rattle.machine_model.proofs.RunChains.{Chain, ◌▸◌, ends}

red : Rgba
red = rgba 255 0 0 255

blue : Rgba
blue = rgba 0 0 255 255

wide : Canvas
wide = record { w = 2; h = 1; paper = rgba 255 255 255 255 }

left : Job
left = Fill (area (pos 0) (pos 0) 1 1) red Over 255

right : Job
right = Fill (area (pos 1) (pos 0) 1 1) blue Over 255

tile : Key
tile = key (pos 0) (pos 0)

-- a layer comes, a stroke begins on it, and both its jobs start
before : List Event
before = Feed (command.Change (change.Layer 1 0 0 clear))
    ∷ Act
    ∷ Feed (command.Stroke 1 1 false)
    ∷ Feed (command.Add 1 Con left)
    ∷ Feed (command.Add 1 Con right)
    ∷ Init
    ∷ Start 0
    ∷ Start 1
    ∷ []

started : (s : State) × Chain before (new_state wide 2) s
unfolding before wide left right red blue conflict queued refreshed cells
started = (
  _,
  record { step = (refl, refl) }
      ▸ record { step = record { entry = _; at_head = refl; no_stroke = refl; no_walks = refl; clean = λ e. cc; new_is = refl } }
      ▸ record { step = (refl, refl) }
      ▸ record { step = (refl, refl) }
      ▸ record { step = (refl, refl) }
      ▸ record { step = record { stroke = _; at_head = refl; not_begun = refl; not_cancelled = refl; no_overlap = refl; on_paint = refl; alone = λ e. refl; new_is = refl } }
      ▸ record { step = record { stroke = _; at_head = refl; next = 0; begun = refl; not_cancelled = refl; no_overlap = refl; free = refl; job = (Con, left); is_next = refl; unblocked = refl; barrier = λ e f. cc; new_is = refl } }
      ▸ record { step = record { stroke = _; at_head = refl; next = 1; begun = refl; not_cancelled = refl; no_overlap = refl; free = refl; job = (Con, right); is_next = refl; unblocked = refl; barrier = λ e f. cc; new_is = refl } }
      ▸ ends,
)

left_first : (s : State) × Chain (Publish 0 tile ∷ Publish 1 tile ∷ []) started.0 s
unfolding started before wide left right red blue tile conflict queued refreshed cells
left_first = (
  _,
  record { step = record { painter = _; runs = refl; in_job = refl; fresh = refl; stroke = _; at_head = refl; new_is = refl } }
      ▸ record { step = record { painter = _; runs = refl; in_job = refl; fresh = refl; stroke = _; at_head = refl; new_is = refl } }
      ▸ ends,
)

right_first : (s : State) × Chain (Publish 1 tile ∷ Publish 0 tile ∷ []) started.0 s
unfolding started before wide left right red blue tile conflict queued refreshed cells
right_first = (
  _,
  record { step = record { painter = _; runs = refl; in_job = refl; fresh = refl; stroke = _; at_head = refl; new_is = refl } }
      ▸ record { step = record { painter = _; runs = refl; in_job = refl; fresh = refl; stroke = _; at_head = refl; new_is = refl } }
      ▸ ends,
)

-- the layer is red on the left and blue on the right
abbrev IsPainted : State → Type 0
IsPainted s = (layer : Layer) × (content 1 s.present ≡ Some layer) × (at layer (point (pos 0) (pos 0)) ≡ red) × (at layer (point (pos 1) (pos 0)) ≡ blue)

left_first_painted : IsPainted left_first.0
unfolding left_first started before wide left right red blue tile conflict queued refreshed cells compose mul
left_first_painted = (_, refl, simp (at-published, at-apply, at-shot_of, at-plain) refl, simp (at-published, at-apply, at-shot_of, at-plain) refl)

right_first_painted : IsPainted right_first.0
unfolding right_first started before wide left right red blue tile conflict queued refreshed cells compose mul
right_first_painted = (_, refl, simp (at-published, at-apply, at-shot_of, at-plain) refl, simp (at-published, at-apply, at-shot_of, at-plain) refl)
