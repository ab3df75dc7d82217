-- Laws of the list of patches that wait for a walk.
use Rattle.std.specs.Prelude.{◌≡◌, Bool, true, List, []}
use Rattle.geom_core.specs.Areas.{Area, holds, Point}
use Rattle.doc_model.specs.declared.canvas.Canvas.{Canvas}
use Rattle.doc_model.specs.declared.canvas.Walk.{Walk}
use Rattle.doc_model.specs.declared.canvas.Walk.TheVariants.{All}
use Rattle.doc_model.specs.declared.canvas.Patch.{Patch}
use Rattle.doc_model.specs.Canvases.{IsOfLimits}
use Rattle.doc_model.specs.Picture.{canvas_area}
use Rattle.doc_model.specs.Updates.{queued, refreshed}
use Rattle.doc_model.specs.Queues.{IsQueue, queued_for}

-- at most 64 patches, each in the canvas and in one cell, no two of one walk in one cell: so it begins, and so it stays
pub record QueuedKeepsPlaces : Type 0 where
  pub empty : (canvas : Area) → IsQueue canvas []
  pub queued : (canvas : Area) (patches : List Patch) (walk : Walk) (rect : Area) → IsQueue canvas patches → IsQueue canvas (queued canvas patches walk rect)
  pub refreshed : (canvas : Area) (patches : List Patch) (rect : Area) → IsQueue canvas patches → IsQueue canvas (refreshed canvas patches rect)

-- of the walks that compose a group anew, the walk of all groups is one
abbrev pub TakesAll : (Walk → Bool) → Type 0
TakesAll covers = (walk : Walk) → covers walk ≡ true → covers All ≡ true

-- what waits for a group goes on waiting, and what is added waits from then on, also where the list is made new
pub record Waits (covers : Walk → Bool) (canvas : Area) : Type 0 where
  pub stays : (patches : List Patch) (walk : Walk) (rect : Area) (p : Point) → holds canvas p ≡ true
      → queued_for covers patches p ≡ true → queued_for covers (queued canvas patches walk rect) p ≡ true
  pub comes : (patches : List Patch) (walk : Walk) (rect : Area) (p : Point) → holds canvas p ≡ true
      → covers walk ≡ true → holds rect p ≡ true → queued_for covers (queued canvas patches walk rect) p ≡ true
  pub stays_refreshed : (patches : List Patch) (rect : Area) (p : Point) → holds canvas p ≡ true
      → queued_for covers patches p ≡ true → queued_for covers (refreshed canvas patches rect) p ≡ true
  pub comes_refreshed : (patches : List Patch) (rect : Area) (p : Point) → holds canvas p ≡ true
      → covers All ≡ true → holds rect p ≡ true → queued_for covers (refreshed canvas patches rect) p ≡ true

-- so it is on every canvas of the limits, for every group
abbrev pub QueuedCovers : Type 0
QueuedCovers = (covers : Walk → Bool) → TakesAll covers → (canvas : Canvas) → IsOfLimits canvas → Waits covers (canvas_area canvas)
