-- The work in a slot, as it is kept.
use Rattle.std.specs.Prelude.{◌≡◌, ℕ, true, Option, Some, None, slice_get}
use Rattle.std.specs.List.{list_any}
use Rattle.geom_core.specs.Grid.{Key, same_key}
use Rattle.doc_model.specs.Jobs.{reads, checks}
use Rattle.doc_model.specs.Lawful.{within_limits}
use Rattle.doc_model.specs.Strokes.{Stroke}
use Rattle.machine_model.specs.State as state
use Rattle.doc_model.specs.declared.canvas.Patch.{Patch}
use Rattle.doc_model.specs.declared.canvas.Walk.{Walk}
use Rattle.machine_model.specs.State.{Slot, State, Paints, Walks, head_stroke}
use Rattle.desk_state.specs.declared.work.Painter.{Painter}
use Rattle.desk_state.specs.declared.work.Walker.{Walker}
use Rattle.desk_state.specs.Parts.{painter_of, walker_of}

-- the job is at work in the slot, with that serial, and is of the stroke at the head; it lies in the world and meets the limits, and its shot was taken on its reads
pub record HasJob (s : State) (place serial : ℕ) (w : Painter) : Type 0 where
  pub runs : slice_get s.slots place ≡ Some (Paints (painter_of w))
  pub drawn : w.serial ≡ serial
  pub stroke : Stroke
  pub at_head : head_stroke s ≡ Some stroke
  pub checked : checks w.job ≡ true
  pub limits : within_limits w.job ≡ true
  pub seen : w.shot.rects ≡ reads w.job

-- a job with that serial is at work in the slot, and has published the tile
pub record HasPublished (s : State) (place serial : ℕ) (key : Key) : Type 0 where
  pub painter : state.Painter
  pub runs : slice_get s.slots place ≡ Some (Paints painter)
  pub drawn : painter.serial ≡ serial
  pub published : list_any (same_key key) painter.published ≡ true

-- no job with that serial is at work in the slot
abbrev pub HasNoJob : State → ℕ → ℕ → Type 0
HasNoJob s place serial = (w : state.Painter) → slice_get s.slots place ≡ Some (Paints w) → w.serial ≡ serial → ⊥

-- the walk is at work in the slot, with that serial
pub record HasWalk (s : State) (place serial : ℕ) (w : Walker) : Type 0 where
  pub runs : slice_get s.slots place ≡ Some (Walks (walker_of w))
  pub drawn : w.serial ≡ serial

-- no walk with that serial is at work in the slot
abbrev pub HasNoWalk : State → ℕ → ℕ → Type 0
HasNoWalk s place serial = (w : state.Walker) → slice_get s.slots place ≡ Some (Walks w) → w.serial ≡ serial → ⊥

-- a walk in the slot is of that sort
abbrev pub WalksAs : Walk → Slot → Type 0
WalksAs walk (Walks w) = w.patch.walk ≡ walk
WalksAs walk slot = Unit {0}

-- the patch of the walk in a slot
abbrev pub patch_of : Option Slot → Option Patch
patch_of (Some (Walks w)) = Some w.patch
patch_of slot = None
