use Rattle.std.proofs.Common.{◌≡◌, Some, sym, ap, ◌∙◌, subst}
use Rattle.doc_model.specs.Strokes.{Stroke}
use Rattle.machine_model.specs.State.{State, head_stroke}
use Rattle.machine_model.specs.Event.{End}
use Rattle.machine_model.specs.Step.{EndStep}
use Rattle.machine_model.specs.Groups.{parent_of}
use Rattle.desk_state.specs.Enabled.{Enabled}
use Rattle.desk_state.specs.Parts.{state_of}
use Rattle.desk_state.proofs.JobDoing.{end_does}
use Rattle.desk_events.specs.Kept.{parts_of}
use Rattle.desk_events.proofs.machine.Machine.end_job.Goals as goal

pub invariant_of-self : goal.invariant_of-self
invariant_of-self c = (end_does (parts_of c.self.inside) c.args.place c.in-Some-Paint.painter c.group_of-group.result c.widen_all.new.updates c.clear.new.self c.self.invariant (subst (λ s. Enabled s (End c.args.place)) (sym c.self.view_is) c.requires)
    (sym c.clear.ensures.work ∙ c.in-Some-Paint.is ∙ ap Some c.in-Some-Paint.field-0-is)
    (subst (λ (t : State). (s : Stroke) → head_stroke t ≡ Some s → c.group_of-group.result ≡ parent_of s.layer t.present) (sym c.self.view_is) (λ s h. c.group_of-group.ensures ∙ ap (λ l. parent_of l c.args.self.now.present) (c.head_layer.ensures s h)))
    c.widen_all.ensures c.clear.ensures.left).desk

pub returns : goal.returns
returns c = subst (λ s. EndStep s c.args.place (state_of (record (parts_of c.self.inside) { slots = c.clear.new.self; updates = c.widen_all.new.updates }))) c.self.view_is
    (end_does (parts_of c.self.inside) c.args.place c.in-Some-Paint.painter c.group_of-group.result c.widen_all.new.updates c.clear.new.self c.self.invariant (subst (λ s. Enabled s (End c.args.place)) (sym c.self.view_is) c.requires)
    (sym c.clear.ensures.work ∙ c.in-Some-Paint.is ∙ ap Some c.in-Some-Paint.field-0-is)
    (subst (λ (t : State). (s : Stroke) → head_stroke t ≡ Some s → c.group_of-group.result ≡ parent_of s.layer t.present) (sym c.self.view_is) (λ s h. c.group_of-group.ensures ∙ ap (λ l. parent_of l c.args.self.now.present) (c.head_layer.ensures s h)))
    c.widen_all.ensures c.clear.ensures.left).step
