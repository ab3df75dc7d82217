-- A state without pixels: what tells which events may happen.
use Rattle.std.specs.Prelude.{ℕ, List, [], map}
use Rattle.std.specs.FinMap as map
use Rattle.pixel_core.specs.Rgba.{clear}
use Rattle.doc_model.specs.declared.command.Outcome.TheVariants.{Done}
use Rattle.doc_model.specs.Layers.{plain}
use Rattle.doc_model.specs.Each.{each}
use Rattle.doc_model.specs.Picture.{Doc}
use Rattle.machine_model.specs.State.{Reach, Child, Slot, Free, Paints, Walks, State}

-- the document with clear layers
abbrev pub blank_doc : Doc → Doc
blank_doc doc = each (λ id layer. plain clear) doc

-- a document of the history, with the reach of its change
abbrev pub blank_entry : Doc × Reach → Doc × Reach
blank_entry e = (blank_doc e.0, e.1)

-- a group of a walk's path, without its children
abbrev pub blank_group : ℕ × List Child → ℕ × List Child
blank_group e = (e.0, [])

-- a job at work without what it has read, a walk at work with the groups on its path alone
abbrev pub blank_slot : Slot → Slot
blank_slot Free = Free
blank_slot (Paints w) = Paints (record w { serial = 0; shot = plain clear })
blank_slot (Walks w) = Walks (record w { serial = 0; shot = map blank_group w.shot })

-- the state without pixels: layers are clear, there are no caches and no frames, serials are 0, and of outcomes only the number is kept
abbrev pub blank : State → State
blank s = record {
  canvas = s.canvas;
  fed = s.fed;
  outcomes = map (λ o. Done) s.outcomes;
  frames = [];
  past = map blank_entry s.past;
  future = map blank_entry s.future;
  base = blank_doc s.base;
  present = blank_doc s.present;
  way = s.way;
  caches = map.empty;
  updates = s.updates;
  slots = map blank_slot s.slots;
  next = 0;
}
