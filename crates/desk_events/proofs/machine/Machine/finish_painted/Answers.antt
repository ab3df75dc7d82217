use Rattle.std.proofs.Common.{None, is_some, sym, ap, ◌∙◌, subst}
use Rattle.machine_model.specs.State.{State}
use Rattle.machine_model.specs.Event.{Finish}
use Rattle.machine_model.specs.Step.{FinishStep}
use Rattle.desk_state.specs.Enabled.{Enabled}
use Rattle.desk_state.specs.Parts.{Parts, state_of}
use Rattle.desk_state.proofs.Doing.{Does, finish_does}
use Rattle.desk_events.specs.Kept.{parts_of}
use Rattle.desk_events.proofs.machine.Machine.finish_painted.Goals as goal

abbrev before : goal.After-self-1 → Parts
before c = parts_of c.self.inside

abbrev after : goal.After-self-1 → Parts
after c = record (before c) { queue = c.pop.new.self; store = c.finish.new.self; way = None }

does : (c : goal.After-self-1) → Does (before c) Finish (after c)
does c = finish_does (before c) c.pop.new.self c.finish.new.self c.self.invariant (subst (λ s. Enabled s Finish) (sym c.self.view_is) c.requires.enabled) (ap (λ (s : State). is_some s.way) c.self.view_is ∙ c.requires.way) (record { left = c.pop.ensures.left; outcomes = c.pop.ensures.outcomes }) c.finish.ensures

pub invariant_of-self : goal.invariant_of-self
invariant_of-self c = (does c).desk

pub returns : goal.returns
returns c = subst (λ s. FinishStep s (state_of (after c))) c.self.view_is (does c).step
