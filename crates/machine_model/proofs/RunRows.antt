-- A whole run: a layer comes, a stroke fills it, and all is walked.
use Rattle.std.proofs.Common.{false, List, [], ◌∷◌, refl, pos}
use Rattle.pixel_core.specs.Rgba.{rgba, clear}
use Rattle.pixel_core.specs.declared.blending.Op.TheVariants.{Over}
use Rattle.geom_core.specs.Areas.{area}
use Rattle.geom_core.specs.Grid.{key, cells}
use Rattle.doc_model.specs.declared.canvas.Canvas.{Canvas}
use Rattle.doc_model.specs.declared.job.Job.{Job}
use Rattle.doc_model.specs.declared.job.Job.TheVariants.{Fill}
use Rattle.doc_model.specs.declared.job.Kind.TheVariants.{Seq}
use Rattle.doc_model.specs.declared.command.Command.TheVariants as command
use Rattle.doc_model.specs.declared.tree.Change.TheVariants as change
use Rattle.doc_model.specs.declared.canvas.Walk.TheVariants.{Up, All}
use Rattle.doc_model.specs.Updates.{queued, refreshed}
use Rattle.doc_model.specs.Strokes.{conflict}
use Rattle.machine_model.specs.State.{State, new_state}
use Rattle.machine_model.specs.Settled.{IsSettled}
use Rattle.machine_model.specs.Event.{Event, Feed, Init, Start, Publish, End, Finish, Act, WalkStart, WalkPublish, WalkEnd}
use Rattle.machine_model.proofs.RunChains.{Chain, ◌▸◌, ends, all_walked}

white : Canvas
white = record { w = 1; h = 1; paper = rgba 255 255 255 255 }

fill : Job
fill = Fill (area (pos 0) (pos 0) 1 1) (rgba 255 0 0 255) Over 255

one : List Event
one = Feed (command.Change (change.Layer 1 0 0 clear))
    ∷ Act
    ∷ WalkStart 0 (record { walk = All; rect = area (pos 0) (pos 0) 1 1 })
    ∷ WalkPublish 0 0 (key (pos 0) (pos 0))
    ∷ WalkEnd 0
    ∷ Feed (command.Stroke 1 1 false)
    ∷ Init
    ∷ Feed (command.Add 1 Seq fill)
    ∷ Start 0
    ∷ Publish 0 (key (pos 0) (pos 0))
    ∷ End 0
    ∷ Feed (command.End 1)
    ∷ WalkStart 0 (record { walk = Up 0; rect = area (pos 0) (pos 0) 1 1 })
    ∷ WalkPublish 0 0 (key (pos 0) (pos 0))
    ∷ WalkEnd 0
    ∷ Finish
    ∷ []

-- the run may happen, and leaves a settled state
one_runs : (s : State) × Chain one (new_state white 1) s × IsSettled s
unfolding one white fill conflict queued refreshed cells
one_runs = (
  _,
  record { step = (refl, refl) }
      ▸ record { step = record { entry = _; at_head = refl; no_stroke = refl; no_walks = refl; clean = λ e. cc; new_is = refl } }
      ▸ record { step = record { i = 0; waits = refl; free = refl; not_exclusive = refl; avoids = refl; new_is = refl } }
      ▸ record { step = record { walker = _; runs = refl; on_path = refl; in_patch = refl; fresh = refl; new_is = refl } }
      ▸ record { step = record { walker = _; runs = refl; all = all_walked; new_is = refl } }
      ▸ record { step = (refl, refl) }
      ▸ record { step = record { stroke = _; at_head = refl; not_begun = refl; not_cancelled = refl; no_overlap = refl; on_paint = refl; alone = λ e. refl; new_is = refl } }
      ▸ record { step = (refl, refl) }
      ▸ record { step = record { stroke = _; at_head = refl; next = 0; begun = refl; not_cancelled = refl; no_overlap = refl; free = refl; job = (Seq, fill); is_next = refl; unblocked = refl; barrier = λ e f. (refl, refl); new_is = refl } }
      ▸ record { step = record { painter = _; runs = refl; in_job = refl; fresh = refl; stroke = _; at_head = refl; new_is = refl } }
      ▸ record { step = record { painter = _; runs = refl; all = λ k h. h; stroke = _; at_head = refl; new_is = refl } }
      ▸ record { step = (refl, refl) }
      ▸ record { step = record { i = 0; waits = refl; free = refl; not_exclusive = refl; avoids = refl; new_is = refl } }
      ▸ record { step = record { walker = _; runs = refl; on_path = refl; in_patch = refl; fresh = refl; new_is = refl } }
      ▸ record { step = record { walker = _; runs = refl; all = all_walked; new_is = refl } }
      ▸ record { step = record { stroke = _; at_head = refl; ended = refl; no_overlap = refl; all_ended = λ e. (refl, refl); new_is = refl } }
      ▸ ends,
  record { entries = refl; slots = refl; updates = refl },
)
