-- What waits for a group goes on waiting.
use Rattle.std.specs.Prelude.{◌≡◌, ℕ, ◌==◌, true, ◌||◌}
use Rattle.doc_model.specs.declared.canvas.Canvas.{Canvas}
use Rattle.doc_model.specs.Canvases.{IsOfLimits}
use Rattle.doc_model.specs.Forest.{is_group}
use Rattle.doc_model.specs.Picture.{Doc, canvas_area}
use Rattle.doc_model.specs.UpdateLaws.{Waits}
use Rattle.machine_model.specs.Covers.{composes}

-- on a canvas of the limits, each point that waits for a walk of the root or of a group of the document goes on waiting as more is queued, also where the list is replaced, and each that is added waits from then on
abbrev pub GroupsWait : Type 0
GroupsWait = (canvas : Canvas) (doc : Doc) (g : ℕ) → IsOfLimits canvas → ((g == 0) || is_group g doc) ≡ true → Waits (composes g doc) (canvas_area canvas)
