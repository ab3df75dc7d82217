use Rattle.std.proofs.Common.{sym, ap, ◌∙◌, subst}
use Rattle.machine_model.specs.State.{head}
use Rattle.machine_model.specs.Event.{Act}
use Rattle.machine_model.specs.Step.{ActStep}
use Rattle.desk_state.specs.Enabled.{Enabled}
use Rattle.desk_state.specs.Parts.{Parts, state_of}
use Rattle.desk_state.proofs.Doing.{Does}
use Rattle.desk_state.proofs.ActDoing.{purge_does}
use Rattle.desk_events.specs.Kept.{parts_of}
use Rattle.desk_events.proofs.machine.Machine.purge.Goals as goal

abbrev before : goal.After-pop → Parts
before c = parts_of c.self.inside

does : (c : goal.After-pop) → Does (before c) Act (record (before c) { queue = c.pop.new.self; store = c.purge.new.self })
does c = purge_does (before c) c.args.keep c.pop.new.self c.purge.new.self c.self.invariant (subst (λ s. Enabled s Act) (sym c.self.view_is) c.requires.enabled) (ap head c.self.view_is ∙ c.requires.head) (record { left = c.pop.ensures.left; outcomes = c.pop.ensures.outcomes }) c.purge.ensures

pub invariant_of-self : goal.invariant_of-self
invariant_of-self c = (does c).desk

pub returns : goal.returns
returns c = subst (λ s. ActStep s (state_of (record (before c) { queue = c.pop.new.self; store = c.purge.new.self }))) c.self.view_is (does c).step
