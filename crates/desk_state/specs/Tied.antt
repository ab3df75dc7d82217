-- How the parts of a desk stand to each other.
use Rattle.std.specs.Prelude.{All, ◌≡◌, ◌≤◌, ◌^◌, ◌-◌, ℕ, true, Option, Some, None, length}
use Rattle.std.specs.List.{AllByRecursion}
use Rattle.std.specs.FinSet as set
use Rattle.std.specs.FinSet.{FinSet}
use Rattle.geom_core.specs.Areas.{Area}
use Rattle.geom_core.specs.Grid.{Key, key_cmp}
use Rattle.doc_model.specs.Jobs.{reads, checks}
use Rattle.doc_model.specs.Lawful.{within_limits}
use Rattle.doc_model.specs.Picture.{canvas_area}
use Rattle.doc_model.specs.Strokes.{Stroke}
use Rattle.entry_queue.specs.Pushed.{StandsFor}
use Rattle.desk_steps.specs.Archives.{Archive}
use Rattle.machine_model.specs.State.{State, head_stroke}
use Rattle.machine_model.specs.Guards.{kept_jobs}
use Rattle.machine_model.specs.Sound.{IsSound}
use Rattle.frame_core.specs.Scenes.{HasSides}
use Rattle.slot_core.specs.declared.Busy.{Busy}
use Rattle.desk_state.specs.declared.work.Work.{Work}
use Rattle.desk_state.specs.declared.work.Work.TheVariants.{Paint, Walk}
use Rattle.desk_state.specs.Noted.{noted}
use Rattle.desk_state.specs.Parts.{Parts, state_of}

-- the store has begun the stroke at the head, of which n jobs were started: it has noted the tiles that these have published, and has room to finish
pub record IsBegun (s : State) (store : Archive) (n : ℕ) : Type 0 where
  pub stroke : Stroke
  pub at_head : head_stroke s ≡ Some stroke
  pub keys : FinSet key_cmp
  pub way : store.way ≡ Some (stroke.layer, keys)
  pub notes : (k : Key) → set.contains keys k ≡ noted (kept_jobs stroke) s.slots n k
  pub room : store.room ≡ true

-- the store has begun a stroke just where one is under way
abbrev pub IsWay : State → Archive → Option ℕ → Type 0
IsWay s store None = store.way ≡ None
IsWay s store (Some n) = IsBegun s store n

-- a job at work lies in the world and meets the limits, and its shot was taken on its reads; a walk's rectangle is that of its patch
abbrev pub IsKept : Option (Busy Work) → Type 0
IsKept None = Unit {0}
IsKept (Some b) = Keeps b.walker b.work
  where
    Keeps : Option Area → Work → Type 0
    Keeps walker (Paint w) = (walker ≡ None) × (w.shot.rects ≡ reads w.job) × (checks w.job ≡ true) × (within_limits w.job ≡ true)
    Keeps walker (Walk w) = walker ≡ Some w.inputs.patch.rect

-- the parts make a sound state, and stand for the same commands and the same stroke under way, and all frames have the canvas's sides
pub record IsDesk (d : Parts) : Type 0 where
  pub sound : IsSound (state_of d)
  pub queue : StandsFor d.fed d.queue
  pub way : IsWay (state_of d) d.store d.way
  pub slots : AllByRecursion IsKept d.slots
  pub area : d.updates.canvas ≡ canvas_area d.canvas
  pub few : length d.fed ≤ 2 ^ 32 - 1
  pub sides : All (HasSides d.canvas.w d.canvas.h) d.frames
