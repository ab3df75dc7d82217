use Rattle.std.proofs.Common.{◌≡◌, Ok, Some, sym, ap, ◌∙◌, subst, inl, inr}
use Rattle.std.specs.FinSet as set
use Rattle.doc_model.specs.Changes.{there}
use Rattle.doc_model.specs.Forest.{content}
use Rattle.doc_model.specs.Strokes.{Stroke}
use Rattle.desk_steps.specs.Archives.{Archive}
use Rattle.machine_model.specs.State.{State, head_stroke}
use Rattle.machine_model.specs.Event.{Init}
use Rattle.desk_state.specs.Enabled.{Enabled}
use Rattle.desk_state.proofs.Doing.{begin_does, begin_there, begin_paints}
use Rattle.desk_events.specs.Kept.{parts_of}
use Rattle.desk_events.proofs.machine.Machine.begin.Goals as goal

pub invariant_of-self-in-Ready : goal.invariant_of-self-in-Ready
invariant_of-self-in-Ready c = (begin_does (parts_of c.self.inside) c.begin.new.self c.head_layer-layer.result c.self.invariant (subst (λ s. Enabled s Init) (sym c.self.view_is) c.requires)
    (subst (λ (t : State). (s : Stroke) → head_stroke t ≡ Some s → c.head_layer-layer.result ≡ s.layer) (sym c.self.view_is) c.head_layer-layer.ensures)
    ((c.begin.ensures.ready (c.in_ok-begin.was ∙ ap Ok c.in-Ready.is)).1 ∙ ap (λ (a : Archive). record a { way = Some (c.head_layer-layer.result, set.empty) }) c.in_ok-prepare.ensures.ok)).desk

pub unreachable-requires : goal.unreachable-requires
unreachable-requires c = elim c.in-NoLayer.is [
  | inl e ↦ begin_there (parts_of c.self.inside) c.head_layer-layer.result c.self.invariant (subst (λ s. Enabled s Init) (sym c.self.view_is) c.requires)
      (subst (λ (t : State). (s : Stroke) → head_stroke t ≡ Some s → c.head_layer-layer.result ≡ s.layer) (sym c.self.view_is) c.head_layer-layer.ensures)
      (ap (λ (a : Archive). there c.head_layer-layer.result a.present) (sym c.in_ok-prepare.ensures.ok) ∙ (c.begin.ensures.no_layer (c.in_ok-begin.was ∙ ap Ok e)).0)
  | inr e ↦ begin_paints (parts_of c.self.inside) c.head_layer-layer.result c.self.invariant (subst (λ s. Enabled s Init) (sym c.self.view_is) c.requires)
      (subst (λ (t : State). (s : Stroke) → head_stroke t ≡ Some s → c.head_layer-layer.result ≡ s.layer) (sym c.self.view_is) c.head_layer-layer.ensures)
      (ap (λ (a : Archive). content c.head_layer-layer.result a.present) (sym c.in_ok-prepare.ensures.ok) ∙ (c.begin.ensures.not_paint (c.in_ok-begin.was ∙ ap Ok e)).0.1)
]
