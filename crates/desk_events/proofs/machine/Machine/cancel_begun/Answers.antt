use Rattle.std.proofs.Common.{◌≡◌, ◌+◌, Some, None, is_some, true, false, sym, ap, ◌∙◌, subst}
use Rattle.geom_core.proofs.Rounds.{touched_bound}
use Rattle.doc_model.specs.Strokes.{Stroke, conflict}
use Rattle.machine_model.specs.State.{State, head_stroke}
use Rattle.machine_model.specs.Event.{Cancel}
use Rattle.machine_model.specs.Step.{CancelStep}
use Rattle.machine_model.specs.Groups.{parent_of}
use Rattle.machine_model.specs.Guards.{is_closed}
use Rattle.machine_model.specs.Effects.{cancel_outcome}
use Rattle.desk_state.specs.Enabled.{Enabled}
use Rattle.desk_state.specs.Parts.{state_of}
use Rattle.desk_state.proofs.Doing.{cancel_does, store_under_way}
use Rattle.desk_state.specs.Counting.{steps_of}
use Rattle.desk_events.specs.Kept.{parts_of}
use Rattle.desk_events.proofs.StepCounts.{cancel_steps}
use Rattle.desk_events.proofs.machine.Machine.cancel_begun.Goals as goal

never : true ≡ false → ⊥
never e = cc

pub invariant_of-self : goal.invariant_of-self
invariant_of-self g c = (cancel_does (parts_of c.self.inside) c.pop.new.self c.revert-touched.new.self c.widen.new.updates c.refusal-outcome.result c.group_of-group.result c.revert-touched.result.bound c.self.invariant (subst (λ s. Enabled s Cancel) (sym c.self.view_is) c.requires.enabled)
    (subst (λ (t : State). (s : Stroke) → head_stroke t ≡ Some s → is_closed s ≡ true → c.refusal-outcome.result ≡ cancel_outcome (conflict s.jobs)) (sym c.self.view_is) c.refusal-outcome.ensures)
    (subst (λ (t : State). (s : Stroke) → head_stroke t ≡ Some s → c.group_of-group.result ≡ parent_of s.layer t.present) (sym c.self.view_is) (λ s h. c.group_of-group.ensures ∙ ap (λ l. parent_of l c.args.self.now.present) (c.head_layer.ensures s h)))
    (λ layer keys e. touched_bound keys c.revert-touched.result (c.revert-touched.ensures.touched layer keys e))
    (λ e. absurd (never (sym (store_under_way (parts_of c.self.inside) c.self.invariant (ap (λ (s : State). is_some s.way) c.self.view_is ∙ c.requires.way)) ∙ ap is_some e)))
    (record { left = c.pop.ensures.left; outcomes = c.pop.ensures.outcomes }) c.revert-touched.ensures.new c.widen.ensures).desk

pub returns-clause-step : goal.returns-clause-step
returns-clause-step g c = subst (λ s. CancelStep s (state_of (record (parts_of c.self.inside) { queue = c.pop.new.self; store = c.revert-touched.new.self; updates = c.widen.new.updates; way = None }))) c.self.view_is
    (cancel_does (parts_of c.self.inside) c.pop.new.self c.revert-touched.new.self c.widen.new.updates c.refusal-outcome.result c.group_of-group.result c.revert-touched.result.bound c.self.invariant (subst (λ s. Enabled s Cancel) (sym c.self.view_is) c.requires.enabled)
    (subst (λ (t : State). (s : Stroke) → head_stroke t ≡ Some s → is_closed s ≡ true → c.refusal-outcome.result ≡ cancel_outcome (conflict s.jobs)) (sym c.self.view_is) c.refusal-outcome.ensures)
    (subst (λ (t : State). (s : Stroke) → head_stroke t ≡ Some s → c.group_of-group.result ≡ parent_of s.layer t.present) (sym c.self.view_is) (λ s h. c.group_of-group.ensures ∙ ap (λ l. parent_of l c.args.self.now.present) (c.head_layer.ensures s h)))
    (λ layer keys e. touched_bound keys c.revert-touched.result (c.revert-touched.ensures.touched layer keys e))
    (λ e. absurd (never (sym (store_under_way (parts_of c.self.inside) c.self.invariant (ap (λ (s : State). is_some s.way) c.self.view_is ∙ c.requires.way)) ∙ ap is_some e)))
    (record { left = c.pop.ensures.left; outcomes = c.pop.ensures.outcomes }) c.revert-touched.ensures.new c.widen.ensures).step

pub returns-clause-counts : goal.returns-clause-counts
returns-clause-counts g c = c.revert-touched.ensures.counts ∙ ap (λ n. c.args.steps.now + n)
    (cancel_steps (parts_of c.self.inside) c.revert-touched.result c.self.invariant (subst (λ s. Enabled s Cancel) (sym c.self.view_is) c.requires.enabled) (ap (λ (s : State). is_some s.way) c.self.view_is ∙ c.requires.way) c.revert-touched.ensures.touched
    ∙ ap (λ (s : State). steps_of s Cancel) c.self.view_is)
