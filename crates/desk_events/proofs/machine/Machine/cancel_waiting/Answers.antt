use Rattle.std.proofs.Common.{◌≡◌, Some, true, sym, ap, ◌∙◌, subst}
use Rattle.doc_model.specs.Strokes.{Stroke, conflict}
use Rattle.machine_model.specs.State.{State, head_stroke}
use Rattle.machine_model.specs.Event.{Cancel}
use Rattle.machine_model.specs.Step.{CancelStep}
use Rattle.machine_model.specs.Guards.{is_closed}
use Rattle.machine_model.specs.Effects.{cancel_outcome}
use Rattle.desk_state.specs.Enabled.{Enabled}
use Rattle.desk_state.specs.Parts.{Parts, state_of}
use Rattle.desk_state.proofs.Doing.{Does, cancel_waiting_does}
use Rattle.desk_events.specs.Kept.{parts_of}
use Rattle.desk_events.proofs.StepCounts.{none_started}
use Rattle.desk_events.proofs.machine.Machine.cancel_waiting.Goals as goal

abbrev before : goal.After-pop → Parts
before c = parts_of c.self.inside

does : (c : goal.After-pop) → Does (before c) Cancel (record (before c) { queue = c.pop.new.self })
does c = cancel_waiting_does (before c) c.pop.new.self c.refusal-outcome.result c.self.invariant (subst (λ s. Enabled s Cancel) (sym c.self.view_is) c.requires.enabled) (ap (λ (s : State). s.way) c.self.view_is ∙ c.requires.way)
    (subst (λ (t : State). (s : Stroke) → head_stroke t ≡ Some s → is_closed s ≡ true → c.refusal-outcome.result ≡ cancel_outcome (conflict s.jobs)) (sym c.self.view_is) c.refusal-outcome.ensures) (record { left = c.pop.ensures.left; outcomes = c.pop.ensures.outcomes })

pub invariant_of-self : goal.invariant_of-self
invariant_of-self c = (does c).desk

pub returns-clause-step : goal.returns-clause-step
returns-clause-step c = subst (λ s. CancelStep s (state_of (record (before c) { queue = c.pop.new.self }))) c.self.view_is (does c).step

pub returns-clause-counts : goal.returns-clause-counts
returns-clause-counts c = none_started c.args.self.now c.requires.way
