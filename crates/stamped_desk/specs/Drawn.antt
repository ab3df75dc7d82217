-- What is known of work that was taken, however long ago.
use Rattle.std.specs.Prelude.{◌≡◌, ◌<◌, ℕ, Some, List, slice_get}
use Rattle.std.specs.List.{AllByRecursion}
use Rattle.pixel_core.specs.Rgba.{Rgba}
use Rattle.geom_core.specs.Areas.{Point}
use Rattle.doc_model.specs.Layers.{Layer}
use Rattle.doc_model.specs.Forest.{content}
use Rattle.doc_model.specs.Strokes.{Stroke}
use Rattle.job_core.specs.Paints.{layer_of}
use Rattle.tile_core.specs.Shots.{sight_at}
use Rattle.machine_model.specs.State.{State, Painter, Walker, Paints, Walks, head_stroke}
use Rattle.machine_model.specs.Guards.{kept_jobs}
use Rattle.machine_model.specs.Sound.{IsOrderly}
use Rattle.walker_core.specs.Readings.{readings}
use Rattle.desk_events.specs.declared.tickets.PaintTicket.{PaintTicket}
use Rattle.desk_events.specs.declared.tickets.WalkTicket.{WalkTicket}
use Rattle.desk_core.specs.declared.tickets.Taken.{Taken}
use Rattle.desk_core.specs.declared.tickets.Taken.TheVariants as taken
use Rattle.desk_events.specs.Sparing.{ShowsBefore}

-- at the points of the tiles that the job writes in, the pixels are those that the jobs before it leave of the layer under way, but where a job from that index on writes
abbrev pub ShotIsPrior : State → ℕ → Painter → (Point → Rgba) → Type 0
ShotIsPrior s since w pixels = (stroke : Stroke) → head_stroke s ≡ Some stroke → (base : Layer) → content stroke.layer s.base ≡ Some base → ShowsBefore (kept_jobs stroke) base since w.index w.job pixels

-- the ticket's serial was drawn, and if a job with it is at work in the ticket's slot, it is the ticket's, with the ticket's shot, whose pixels are those of the layer before it
pub record IsDrawnJob (s : State) (t : PaintTicket) : Type 0 where
  pub drawn : t.slot.serial < s.next
  pub own : (w : Painter) → slice_get s.slots t.slot.place ≡ Some (Paints w) → w.serial ≡ t.slot.serial → (w.job ≡ t.work) × (w.shot ≡ layer_of t.shot)
  pub prior : (w : Painter) → slice_get s.slots t.slot.place ≡ Some (Paints w) → w.serial ≡ t.slot.serial → ShotIsPrior s t.since w (sight_at t.shot)

-- the ticket's serial was drawn, and if a walk with it is at work in the ticket's slot, it reads what the ticket has
pub record IsDrawnWalk (s : State) (t : WalkTicket) : Type 0 where
  pub drawn : t.slot.serial < s.next
  pub own : (w : Walker) → slice_get s.slots t.slot.place ≡ Some (Walks w) → w.serial ≡ t.slot.serial → readings w.patch w.shot ≡ t.inputs

-- so it is of the work that was taken
abbrev pub IsDrawn : State → Taken → Type 0
IsDrawn s (taken.Paint t) = IsDrawnJob s t
IsDrawn s (taken.Walk t) = IsDrawnWalk s t
IsDrawn s t = Unit {0}

-- and, in a state that a desk can reach, of each of these
pub record AreDrawn (s : State) (ts : List Taken) : Type 0 where
  pub orderly : IsOrderly s
  pub each : AllByRecursion (IsDrawn s) ts
