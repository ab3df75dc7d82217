-- An undo and a redo with exports in between, by computing.
use Rattle.std.proofs.Common.{◌≡◌, List, [], ◌∷◌, refl, pos}
use Rattle.pixel_core.specs.Rgba.{Rgba, rgba}
use Rattle.pixel_core.specs.Compose.{compose, mul}
use Rattle.geom_core.specs.Areas.{area}
use Rattle.geom_core.specs.Grid.{key, cells}
use Rattle.doc_model.specs.declared.canvas.Canvas.{Canvas}
use Rattle.doc_model.specs.declared.canvas.Walk.TheVariants.{All}
use Rattle.doc_model.specs.declared.command.Command.TheVariants as command
use Rattle.doc_model.specs.declared.tree.Change.TheVariants as change
use Rattle.doc_model.proofs.LayerLaws.{at-plain}
use Rattle.doc_model.specs.Updates.{queued, refreshed}
use Rattle.machine_model.specs.State.{State, new_state}
use Rattle.machine_model.specs.Settled.{IsSettled}
use Rattle.machine_model.specs.Event.{Event, Feed, Act, WalkStart, WalkPublish, WalkEnd}
use Rattle.machine_model.proofs.RunChains.{Chain, ◌▸◌, ends, all_walked}

red : Rgba
red = rgba 255 0 0 255

white : Canvas
white = record { w = 1; h = 1; paper = rgba 255 255 255 255 }

-- all groups are walked, and an export takes effect
shown : List Event
shown = WalkStart 0 (record { walk = All; rect = area (pos 0) (pos 0) 1 1 })
    ∷ WalkPublish 0 0 (key (pos 0) (pos 0))
    ∷ WalkEnd 0
    ∷ Feed command.Export
    ∷ Act
    ∷ []

added : (s : State) × Chain (Feed (command.Change (change.Layer 1 0 0 red)) ∷ Act ∷ shown) (new_state white 1) s
unfolding shown white red queued refreshed cells
added = (
  _,
  record { step = (refl, refl) }
      ▸ record { step = record { entry = _; at_head = refl; no_stroke = refl; no_walks = refl; clean = λ e. cc; new_is = refl } }
      ▸ record { step = record { i = 0; waits = refl; free = refl; not_exclusive = refl; avoids = refl; new_is = refl } }
      ▸ record { step = record { walker = _; runs = refl; on_path = refl; in_patch = refl; fresh = refl; new_is = refl } }
      ▸ record { step = record { walker = _; runs = refl; all = all_walked; new_is = refl } }
      ▸ record { step = (refl, refl) }
      ▸ record { step = record { entry = _; at_head = refl; no_stroke = refl; no_walks = refl; clean = λ e. refl; new_is = refl } }
      ▸ ends,
)

undone : (s : State) × Chain (Feed command.Undo ∷ Act ∷ shown) added.0 s
unfolding added shown white red queued refreshed cells
undone = (
  _,
  record { step = (refl, refl) }
      ▸ record { step = record { entry = _; at_head = refl; no_stroke = refl; no_walks = refl; clean = λ e. cc; new_is = refl } }
      ▸ record { step = record { i = 0; waits = refl; free = refl; not_exclusive = refl; avoids = refl; new_is = refl } }
      ▸ record { step = record { walker = _; runs = refl; on_path = refl; in_patch = refl; fresh = refl; new_is = refl } }
      ▸ record { step = record { walker = _; runs = refl; all = all_walked; new_is = refl } }
      ▸ record { step = (refl, refl) }
      ▸ record { step = record { entry = _; at_head = refl; no_stroke = refl; no_walks = refl; clean = λ e. refl; new_is = refl } }
      ▸ ends,
)

redone : (s : State) × Chain (Feed command.Redo ∷ Act ∷ shown) undone.0 s × IsSettled s
unfolding undone added shown white red queued refreshed cells
redone = (
  _,
  record { step = (refl, refl) }
      ▸ record { step = record { entry = _; at_head = refl; no_stroke = refl; no_walks = refl; clean = λ e. cc; new_is = refl } }
      ▸ record { step = record { i = 0; waits = refl; free = refl; not_exclusive = refl; avoids = refl; new_is = refl } }
      ▸ record { step = record { walker = _; runs = refl; on_path = refl; in_patch = refl; fresh = refl; new_is = refl } }
      ▸ record { step = record { walker = _; runs = refl; all = all_walked; new_is = refl } }
      ▸ record { step = (refl, refl) }
      ▸ record { step = record { entry = _; at_head = refl; no_stroke = refl; no_walks = refl; clean = λ e. refl; new_is = refl } }
      ▸ ends,
  record { entries = refl; slots = refl; updates = refl },
)

-- red, then the white paper, then red again
frames_are : redone.0.frames ≡ ((255 ∷ 0 ∷ 0 ∷ []) ∷ []) ∷ ((255 ∷ 255 ∷ 255 ∷ []) ∷ []) ∷ ((255 ∷ 0 ∷ 0 ∷ []) ∷ []) ∷ []
unfolding redone undone added shown white red queued refreshed cells compose mul
frames_are = rw (at-plain) refl
