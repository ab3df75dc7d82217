-- What the events leave.
use Rattle.std.specs.Prelude.{ℕ, suc, Bool, true, false, if◌then◌else◌, Option, Some, None, Result, Ok, Err, List, [], ◌∷◌, ◌++◌, drop, take}
use Rattle.std.specs.Option.{unwrap_or}
use Rattle.std.specs.Ordering.{nat_cmp}
use Rattle.std.specs.FinMap as map
use Rattle.std.specs.FinMap.{FinMap}
use Rattle.std.specs.FinSet as set
use Rattle.pixel_core.specs.Rgba.{clear}
use Rattle.geom_core.specs.Areas.{Area}
use Rattle.geom_core.specs.Grid.{key_set}
pub use Rattle.geom_core.specs.Touches.{bound_of}
use Rattle.doc_model.specs.declared.tree.TreeFault.{TreeFault}
use Rattle.doc_model.specs.declared.command.Outcome.{Outcome}
use Rattle.doc_model.specs.declared.command.Outcome.TheVariants as outcome
use Rattle.doc_model.specs.declared.canvas.Walk.TheVariants.{Up}
use Rattle.doc_model.specs.declared.canvas.Patch.{Patch}
use Rattle.doc_model.specs.Layers.{Layer, plain}
use Rattle.doc_model.specs.Jobs.{writes}
use Rattle.doc_model.specs.Forest.{content}
use Rattle.doc_model.specs.Readers.{order}
use Rattle.doc_model.specs.Picture.{Doc, frame, canvas_area}
use Rattle.doc_model.specs.Changes.{changed, there}
use Rattle.doc_model.specs.Strokes.{Jobs, Stroke, Entry, Strokes, Changes, Undoes, Redoes, Purges, Exports}
use Rattle.doc_model.specs.Updates.{queued, refreshed}
use Rattle.machine_model.specs.State.{Reach, Whole, Part, State}
use Rattle.machine_model.specs.Groups.{cache, parent_of}
use Rattle.machine_model.specs.Guards.{kept_jobs}

-- the rectangles that the jobs may change
abbrev pub writes_of : Jobs → List Area
writes_of [] = []
writes_of (j ∷ jobs) = writes j.1 ++ writes_of jobs

-- the tiles of its layer that a stroke may change
abbrev pub reach_of : Stroke → Reach
reach_of stroke = Part stroke.layer (key_set (writes_of stroke.jobs))

-- the updates, with a rectangle or none for the group and those above it
abbrev pub updates_with : State → ℕ → Option Area → List Patch
updates_with s g None = s.updates
updates_with s g (Some rect) = queued (canvas_area s.canvas) s.updates (Up g) rect

-- the updates, with each rectangle for the group and those above it
abbrev pub updates_with_all : Area → ℕ → List Area → List Patch → List Patch
updates_with_all canvas g [] patches = patches
updates_with_all canvas g (a ∷ rest) patches = updates_with_all canvas g rest (queued canvas patches (Up g) a)

-- a cache for each group of the document: the old one, or a clear one
abbrev pub caches_for : FinMap nat_cmp Layer → Doc → FinMap nat_cmp Layer
caches_for caches doc = map.from_entries (each_cache (order doc ++ 0 ∷ []))
  where
    each_cache : List ℕ → List (ℕ × Layer)
    each_cache [] = []
    each_cache (g ∷ gs) = (g, cache caches g) ∷ each_cache gs

-- the document, the caches and the updates after a change of this reach
abbrev pub moved_to : State → Doc → Reach → State
moved_to s new Whole = record s { base = new; present = new; caches = caches_for s.caches new; updates = refreshed (canvas_area s.canvas) s.updates (canvas_area s.canvas) }
moved_to s new (Part layer keys) = record s { base = new; present = new; updates = updates_with s (parent_of layer new) (bound_of (set.items keys)) }

-- the state after an entry left the queue with that outcome
abbrev pub with_outcome : State → Outcome → State
with_outcome s o = record s { present = s.base; outcomes = s.outcomes ++ o ∷ [] }

-- the state after a change, by what it gives
abbrev pub after_change : State → Result Doc TreeFault → State
after_change s (Err fault) = with_outcome s (outcome.Tree fault)
after_change s (Ok new) = moved_to (record (with_outcome s outcome.Done) { past = (s.base, Whole) ∷ s.past; future = [] }) new Whole

-- the state after an undo, by the past
abbrev pub after_undo : State → List (Doc × Reach) → State
after_undo s [] = with_outcome s outcome.NothingToUndo
after_undo s (e ∷ past) = moved_to (record (with_outcome s outcome.Done) { past = past; future = (s.base, e.1) ∷ s.future }) e.0 e.1

-- the state after a redo, by the future
abbrev pub after_redo : State → List (Doc × Reach) → State
after_redo s [] = with_outcome s outcome.NothingToRedo
after_redo s (e ∷ future) = moved_to (record (with_outcome s outcome.Done) { past = (s.base, e.1) ∷ s.past; future = future }) e.0 e.1

-- the state after an entry that is no stroke took effect
abbrev pub after_entry : State → Entry → State
after_entry s (Strokes stroke) = s
after_entry s (Changes change) = after_change s (changed plain change s.base)
after_entry s Undoes = after_undo s s.past
after_entry s Redoes = after_redo s s.future
after_entry s (Purges n) = record (with_outcome s outcome.Done) { past = take n s.past }
after_entry s Exports = record (with_outcome s outcome.Done) { frames = s.frames ++ frame s.base s.canvas ∷ [] }

-- the layer's pixels, and a clear layer where there is no such paint layer
abbrev pub layer_in : ℕ → Doc → Layer
layer_in id doc = unwrap_or (content id doc) (plain clear)

-- the outcome of a stroke that names no paint layer
abbrev pub no_paint_outcome : ℕ → Doc → Outcome
no_paint_outcome id doc = if there id doc then outcome.NotPaint id else outcome.NoLayer id

-- the state after the stroke at the head finished; one that names no paint layer has only its outcome
abbrev pub after_finish : State → Stroke → Bool → State
after_finish s stroke false = record s { outcomes = s.outcomes ++ no_paint_outcome stroke.layer s.base ∷ [] }
after_finish s stroke true = record s { past = (s.base, reach_of stroke) ∷ s.past; future = []; base = s.present; outcomes = s.outcomes ++ outcome.Done ∷ []; way = None }

-- the outcome of a stroke that leaves nothing
abbrev pub cancel_outcome : Option (ℕ × ℕ) → Outcome
cancel_outcome None = outcome.Cancelled
cancel_outcome (Some pair) = outcome.Overlap pair.0 pair.1

-- the jobs that were started
abbrev pub started_jobs : State → Stroke → Jobs
started_jobs s stroke = so_far s.way
  where
    so_far : Option ℕ → Jobs
    so_far None = []
    so_far (Some n) = take n (kept_jobs stroke)

-- the list without the item of that index
abbrev pub without_nth : {A : Type 0} → List A → ℕ → List A
without_nth xs i = take i xs ++ drop (suc i) xs
