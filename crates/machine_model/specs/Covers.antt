-- What groups show, and what will compose them again.
use Rattle.std.specs.Prelude.{ℕ, Bool, false, ◌||◌, ◌&&◌, Option, Some, None, List, [], ◌∷◌, map}
use Rattle.std.specs.List.{list_any}
use Rattle.pixel_core.specs.Rgba.{Rgba}
use Rattle.geom_core.specs.Areas.{holds, Point}
use Rattle.geom_core.specs.Rects.{any_holds}
use Rattle.doc_model.specs.declared.canvas.Walk.{Walk}
use Rattle.doc_model.specs.declared.canvas.Walk.TheVariants.{Up}
use Rattle.doc_model.specs.Layers.{at}
use Rattle.doc_model.specs.Jobs.{writes}
use Rattle.doc_model.specs.Picture.{Doc, with_look}
use Rattle.doc_model.specs.Strokes.{Stroke}
use Rattle.doc_model.specs.Queues.{queued_for}
use Rattle.machine_model.specs.State.{Child, Slot, Free, Paints, Walks, State, head_stroke}
use Rattle.machine_model.specs.Groups.{path_of, on, parent_of}

-- the children laid on a backdrop at a point, from the bottom
abbrev pub folded : List Child → Point → Rgba → Rgba
folded [] p backdrop = backdrop
folded (c ∷ cs) p backdrop = folded cs p (with_look c.look (at c.pixels p) backdrop)

-- the group whose children the stroke under way paints
abbrev pub painted_group : State → Option Stroke → ℕ
painted_group s None = 0
painted_group s (Some stroke) = parent_of stroke.layer s.present

-- whether what stands in a slot will compose the group at the point again
abbrev pub slot_covers : State → ℕ → Point → Slot → Bool
slot_covers s g p Free = false
slot_covers s g p (Paints w) = any_holds (writes w.job) p && on g (path_of (Up (painted_group s (head_stroke s))) s.present)
slot_covers s g p (Walks w) = holds w.patch.rect p && on g (map (λ (e : ℕ × List Child). e.0) w.shot)

-- whether the walk composes the group
abbrev pub composes : ℕ → Doc → Walk → Bool
composes g doc walk = on g (path_of walk doc)

-- whether something will compose the group at the point again
abbrev pub covered : State → ℕ → Point → Bool
covered s g p = queued_for (composes g s.present) s.updates p || list_any (slot_covers s g p) s.slots
