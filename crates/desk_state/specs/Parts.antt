-- What the desk keeps, and the state of the machine that it stands for.
use Rattle.std.specs.Prelude.{ℕ, Option, Some, None, List, map}
use Rattle.std.specs.Ordering.{nat_cmp}
use Rattle.std.specs.FinMap.{FinMap}
use Rattle.doc_model.specs.declared.canvas.Canvas.{Canvas}
use Rattle.doc_model.specs.declared.command.Command.{Command}
use Rattle.doc_model.specs.Layers.{Layer}
use Rattle.frame_core.specs.Frames.{Scene}
use Rattle.frame_core.specs.Scenes.{colours_of}
use Rattle.job_core.specs.Paints.{layer_of}
use Rattle.entry_queue.specs.Pushed.{Pending}
use Rattle.desk_steps.specs.Archives.{Archive}
use Rattle.machine_model.specs.State as state
use Rattle.machine_model.specs.State.{State, Slot, Free, Paints, Walks}
use Rattle.update_queue.specs.Waiting.{Waiting}
use Rattle.desk_state.specs.declared.work.Painter.{Painter}
use Rattle.desk_state.specs.declared.work.Walker.{Walker}
use Rattle.slot_core.specs.declared.Busy.{Busy}
use Rattle.desk_state.specs.declared.work.Work.{Work}
use Rattle.desk_state.specs.declared.work.Work.TheVariants.{Paint, Walk}

-- the parts as their own contracts see them
pub record Parts : Type 0 where
  pub canvas : Canvas
  pub fed : List Command
  pub queue : Pending
  pub store : Archive
  pub caches : FinMap nat_cmp Layer
  pub updates : Waiting
  pub slots : List (Option (Busy Work))
  pub frames : List Scene
  pub way : Option ℕ
  pub next : ℕ

-- a job at work, whose shot shows a layer
abbrev pub painter_of : Painter → state.Painter
painter_of w = record { serial = w.serial; index = w.index; job = w.job; shot = layer_of w.shot; published = w.published }

-- a walk at work
abbrev pub walker_of : Walker → state.Walker
walker_of w = record { serial = w.serial; patch = w.inputs.patch; shot = w.inputs.groups; published = w.published }

-- what is at work in a slot, if anything is
abbrev pub slot_of : Option (Busy Work) → Slot
slot_of None = Free
slot_of (Some b) = work_of b.work
  where
    work_of : Work → Slot
    work_of (Paint w) = Paints (painter_of w)
    work_of (Walk w) = Walks (walker_of w)

-- the state of the machine
abbrev pub state_of : Parts → State
state_of d = record {
  canvas = d.canvas;
  fed = d.fed;
  outcomes = d.queue.outcomes;
  frames = map colours_of d.frames;
  past = d.store.past;
  future = d.store.future;
  base = d.store.base;
  present = d.store.present;
  way = d.way;
  caches = d.caches;
  updates = d.updates.patches;
  slots = map slot_of d.slots;
  next = d.next;
}

-- these parts together
abbrev pub parts : Canvas → List Command → Pending → Archive → FinMap nat_cmp Layer → Waiting → List (Option (Busy Work)) → List Scene → Option ℕ → ℕ → Parts
parts canvas fed queue store caches updates slots frames way next = record { canvas = canvas; fed = fed; queue = queue; store = store; caches = caches; updates = updates; slots = slots; frames = frames; way = way; next = next }
