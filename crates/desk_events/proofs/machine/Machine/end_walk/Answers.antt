use Rattle.std.proofs.Common.{sym, subst}
use Rattle.machine_model.specs.Event.{WalkEnd}
use Rattle.machine_model.specs.Step.{WalkEndStep}
use Rattle.desk_state.specs.Enabled.{Enabled}
use Rattle.desk_state.specs.Parts.{state_of}
use Rattle.desk_state.proofs.WalkLaying.{walk_freed_does}
use Rattle.desk_events.specs.Kept.{parts_of}
use Rattle.desk_events.proofs.machine.Machine.end_walk.Goals as goal

pub invariant_of-self : goal.invariant_of-self
invariant_of-self c = (walk_freed_does (parts_of c.self.inside) c.args.place c.clear-walk.new.self c.self.invariant (subst (λ s. Enabled s (WalkEnd c.args.place)) (sym c.self.view_is) c.requires) c.clear-walk.ensures.left).desk

pub returns : goal.returns
returns c = subst (λ s. WalkEndStep s c.args.place (state_of (record (parts_of c.self.inside) { slots = c.clear-walk.new.self }))) c.self.view_is
    (walk_freed_does (parts_of c.self.inside) c.args.place c.clear-walk.new.self c.self.invariant (subst (λ s. Enabled s (WalkEnd c.args.place)) (sym c.self.view_is) c.requires) c.clear-walk.ensures.left).step
