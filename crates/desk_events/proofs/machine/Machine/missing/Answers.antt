use Rattle.std.proofs.Common.{true, false, sym, ap, ◌∙◌}
use Rattle.doc_model.specs.Changes.{there}
use Rattle.machine_model.specs.State.{State}
use Rattle.machine_model.specs.Effects.{no_paint_outcome}
use Rattle.desk_steps.proofs.Exchanged.{there_shape}
use Rattle.desk_state.proofs.Doing.{present_at_rest, missing_is}
use Rattle.desk_events.specs.Kept.{parts_of}
use Rattle.desk_events.proofs.machine.Machine.missing.Goals as goal

-- whether the layer is there, in the document as it is between strokes
pub returns-then-has : goal.returns-then-has
returns-then-has c s h =
    missing_is true c.head_layer-layer.result s c.self.inside.store.base (c.head_layer-layer.ensures s h)
    (ap (there c.head_layer-layer.result) (sym (present_at_rest (parts_of c.self.inside) c.self.invariant (ap (λ (t : State). t.way) c.self.view_is ∙ c.requires)))
    ∙ sym (there_shape c.head_layer-layer.result c.self.inside.store.present c.tree.result.now c.tree.ensures.value) ∙ sym c.has.ensures ∙ c.if-has.true)
    ∙ ap (λ (t : State). no_paint_outcome s.layer t.base) c.self.view_is

pub returns-else-has : goal.returns-else-has
returns-else-has c s h =
    missing_is false c.head_layer-layer.result s c.self.inside.store.base (c.head_layer-layer.ensures s h)
    (ap (there c.head_layer-layer.result) (sym (present_at_rest (parts_of c.self.inside) c.self.invariant (ap (λ (t : State). t.way) c.self.view_is ∙ c.requires)))
    ∙ sym (there_shape c.head_layer-layer.result c.self.inside.store.present c.tree.result.now c.tree.ensures.value) ∙ sym c.has.ensures ∙ c.if-has.false)
    ∙ ap (λ (t : State). no_paint_outcome s.layer t.base) c.self.view_is
