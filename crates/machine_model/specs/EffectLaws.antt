-- What the events do, and what they leave alone.
use Rattle.std.specs.Prelude.{◌≡◌, ◌≢◌, ℕ, suc, ◌==◌, true, false, ◌||◌, Some, None, [], ◌∷◌, ◌++◌, slice_get}
use Rattle.geom_core.specs.Areas.{holds, Point}
use Rattle.geom_core.specs.Rects.{any_holds}
use Rattle.geom_core.specs.Grid.{Key}
use Rattle.doc_model.specs.declared.job.Kind.{Kind}
use Rattle.doc_model.specs.declared.canvas.Walk.TheVariants.{Up}
use Rattle.doc_model.specs.declared.command.Outcome.{Outcome}
use Rattle.doc_model.specs.declared.command.Outcome.TheVariants.{Done}
use Rattle.doc_model.specs.Layers.{Layer, at}
use Rattle.doc_model.specs.Jobs.{reads, writes, apply}
use Rattle.doc_model.specs.Shots.{in_tile}
use Rattle.doc_model.specs.Forest.{is_group, content, with_content}
use Rattle.doc_model.specs.Picture.{canvas_area}
use Rattle.doc_model.specs.Strokes.{Stroke}
use Rattle.doc_model.specs.Laws.{SameOn}
use Rattle.doc_model.specs.Queues.{queued_for}
use Rattle.machine_model.specs.State.{Painter, Walker, Paints, Walks, State, head_stroke}
use Rattle.machine_model.specs.Event.{Start, Publish, End, Cancel, WalkPublish}
use Rattle.machine_model.specs.Groups.{cache, parent_of}
use Rattle.machine_model.specs.Covers.{composes}
use Rattle.machine_model.specs.Guards.{kept_jobs}
use Rattle.machine_model.specs.Walks.{walk_value}
use Rattle.machine_model.specs.Effects.{layer_in}
use Rattle.machine_model.specs.Step.{Step}
use Rattle.machine_model.specs.Sound.{IsOrderly}

-- the job in the slot is the next of the list, has the next serial, and was started with the layer's pixels of now on its reads
pub record StartsNext (old new : State) (place : ℕ) : Type 0 where
  pub painter : Painter
  pub at_work : slice_get new.slots place ≡ Some (Paints painter)
  pub started_before : old.way ≡ Some painter.index
  pub started_now : new.way ≡ Some (suc painter.index)
  pub serial : painter.serial ≡ old.next
  pub stroke : Stroke
  pub at_head : head_stroke old ≡ Some stroke
  pub kind : Kind
  pub listed : slice_get (kept_jobs stroke) painter.index ≡ Some (kind, painter.job)
  pub shot : SameOn (reads painter.job) painter.shot (layer_in stroke.layer old.present)

-- each start takes the next job of the list
abbrev pub JobsStartInOrder : Type 0
JobsStartInOrder = (old new : State) (place : ℕ) → Step old (Start place) new → StartsNext old new place

-- of the document only the stroke's layer changes, there only points of the job's writes in that tile, and these take the job's value on its shot
pub record PublishesTile (old new : State) (place : ℕ) (key : Key) : Type 0 where
  pub painter : Painter
  pub at_work : slice_get old.slots place ≡ Some (Paints painter)
  pub stroke : Stroke
  pub at_head : head_stroke old ≡ Some stroke
  pub before : Layer
  pub was : content stroke.layer old.present ≡ Some before
  pub after : Layer
  pub is : new.present ≡ with_content stroke.layer after old.present
  pub default_pixel : after.default_pixel ≡ before.default_pixel
  pub inside : (p : Point) → any_holds (writes painter.job) p ≡ true → in_tile key p ≡ true → at after p ≡ at (apply painter.job painter.shot) p
  pub out_of_tile : (p : Point) → in_tile key p ≡ false → at after p ≡ at before p
  pub out_of_writes : (p : Point) → any_holds (writes painter.job) p ≡ false → at after p ≡ at before p

-- each publish is one of these
abbrev pub PublishStaysInTile : Type 0
PublishStaysInTile = (old new : State) (place : ℕ) (key : Key) → IsOrderly old → Step old (Publish place key) new → PublishesTile old new place key

-- the job in the slot ends, and each canvas point of its writes waits for the layer's group and those above it
pub record QueuesWrites (old new : State) (place : ℕ) : Type 0 where
  pub painter : Painter
  pub at_work : slice_get old.slots place ≡ Some (Paints painter)
  pub stroke : Stroke
  pub at_head : head_stroke old ≡ Some stroke
  pub waits : (g : ℕ) (p : Point) → ((g == 0) || is_group g new.present) ≡ true → composes g new.present (Up (parent_of stroke.layer new.present)) ≡ true
      → holds (canvas_area new.canvas) p ≡ true → any_holds (writes painter.job) p ≡ true → queued_for (composes g new.present) new.updates p ≡ true

-- each end is one of these
abbrev pub EndQueues : Type 0
EndQueues = (old new : State) (place : ℕ) → IsOrderly old → Step old (End place) new → QueuesWrites old new place

-- the document is the one from before the stroke, and nothing is left of the stroke but an outcome that isn't Done
pub record PutsBack (old new : State) : Type 0 where
  pub present : new.present ≡ old.base
  pub base : new.base ≡ old.base
  pub past : new.past ≡ old.past
  pub future : new.future ≡ old.future
  pub frames : new.frames ≡ old.frames
  pub way : new.way ≡ None
  pub outcome : Outcome
  pub told : new.outcomes ≡ old.outcomes ++ outcome ∷ []
  pub not_done : outcome ≢ Done

-- each cancel is one of these
abbrev pub CancelPutsBack : Type 0
CancelPutsBack = (old new : State) → Step old Cancel new → PutsBack old new

-- of the caches only the group's changes, there only points of the patch in that tile, and these take the walk's value
pub record ComposesTile (old new : State) (place g : ℕ) (key : Key) : Type 0 where
  pub walker : Walker
  pub at_work : slice_get old.slots place ≡ Some (Walks walker)
  pub others : (h : ℕ) (p : Point) → h ≢ g → at (cache new.caches h) p ≡ at (cache old.caches h) p
  pub inside : (p : Point) → holds walker.patch.rect p ≡ true → in_tile key p ≡ true → at (cache new.caches g) p ≡ walk_value walker.shot g p
  pub out_of_tile : (p : Point) → in_tile key p ≡ false → at (cache new.caches g) p ≡ at (cache old.caches g) p
  pub out_of_patch : (p : Point) → holds walker.patch.rect p ≡ false → at (cache new.caches g) p ≡ at (cache old.caches g) p

-- each publish of a walk is one of these
abbrev pub WalkStaysInTile : Type 0
WalkStaysInTile = (old new : State) (place g : ℕ) (key : Key) → Step old (WalkPublish place g key) new → ComposesTile old new place g key
