-- The machine's state without pixels: what a checker keeps of it.
use Rattle.std.specs.Prelude.{ℕ, ◌==◌, if◌then◌else◌, Option, List, [], ◌∷◌, map}
use Rattle.std.specs.FinSet as set
use Rattle.geom_core.specs.Areas.{Area}
use Rattle.geom_core.specs.Grid.{Key}
use Rattle.geom_core.specs.Touches.{bound_of}
use Rattle.doc_model.specs.declared.command.Command.{Command}
use Rattle.doc_model.specs.Each.{each}
use Rattle.doc_model.specs.Picture.{Doc, canvas_area}
use Rattle.entry_queue.specs.declared.entry.Entry.{Entry}
use Rattle.entry_queue.specs.Pushed.{queued}
use Rattle.update_queue.specs.Waiting.{Waiting, waiting}
use Rattle.machine_model.specs.State as state
use Rattle.machine_model.specs.State.{State}
use Rattle.machine_model.specs.Next.{groups_of}
use Rattle.trace_state.specs.declared.history.Reach.{Reach}
use Rattle.trace_state.specs.declared.history.Reach.TheVariants as reach
use Rattle.trace_state.specs.Histories.{Former}
use Rattle.trace_state.specs.declared.group.WalkedGroup.{WalkedGroup}
use Rattle.trace_state.specs.declared.slot.Slot.{Slot}
use Rattle.trace_state.specs.declared.slot.Slot.TheVariants as slot
use Rattle.trace_state.specs.Trees.{Shape}

-- all of a state but pixels, serials and outcomes: of what was fed the entries that are left, of a document its tree, of the tiles of a reach the rectangle round them
pub record Outline : Type 0 where
  pub area : Area
  pub fed : List Command
  pub left : List Entry
  pub past : List Former
  pub future : List Former
  pub base : Shape
  pub present : Shape
  pub way : Option ℕ
  pub updates : Waiting
  pub slots : List Slot

-- the document without its layers' pixels
abbrev pub shape : Doc → Shape
shape doc = each (λ id layer. tt) doc

abbrev pub reach_of : state.Reach → Reach
reach_of state.Whole = reach.Whole
reach_of (state.Part id keys) = reach.Part id (bound_of (set.items keys))

abbrev pub former_of : Doc × state.Reach → Former
former_of e = record { tree = shape e.0; reach = reach_of e.1 }

-- the tiles of the group among the pairs
abbrev pub tiles_of : ℕ → List (ℕ × Key) → List Key
tiles_of g [] = []
tiles_of g (e ∷ es) = if e.0 == g then e.1 ∷ tiles_of g es else tiles_of g es

-- a group of a walk, with its tiles that are published
abbrev pub walked_group : List (ℕ × Key) → ℕ → WalkedGroup
walked_group published g = record { group = g; published = set.from_list (tiles_of g published) }

abbrev pub slot_of : state.Slot → Slot
slot_of state.Free = slot.Free
slot_of (state.Paints w) = slot.Paints (record { index = w.index; job = w.job; published = set.from_list w.published })
slot_of (state.Walks w) = slot.Walks (record { patch = w.patch; groups = map (walked_group w.published) (groups_of w) })

abbrev pub outline : State → Outline
outline s = record {
  area = canvas_area s.canvas;
  fed = s.fed;
  left = map queued (state.waiting s);
  past = map former_of s.past;
  future = map former_of s.future;
  base = shape s.base;
  present = shape s.present;
  way = s.way;
  updates = waiting (canvas_area s.canvas) s.updates;
  slots = map slot_of s.slots;
}
