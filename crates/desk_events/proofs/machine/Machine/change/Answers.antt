use Rattle.std.proofs.Common.{Err, sym, ap, ◌∙◌, subst}
use Rattle.machine_model.specs.State.{head}
use Rattle.machine_model.specs.Event.{Act}
use Rattle.desk_state.specs.Enabled.{Enabled}
use Rattle.desk_state.specs.Tied.{IsDesk}
use Rattle.desk_state.proofs.ActDoing.{refused_does}
use Rattle.desk_events.specs.Kept.{parts_of}
use Rattle.desk_events.proofs.ActsMove.{change_moves}
use Rattle.desk_events.proofs.machine.Machine.change.Goals as goal

pub invariant_of-self : goal.invariant_of-self
invariant_of-self c = (change_moves (parts_of c.self.inside) c.args.change.now c.pop.new.self c.change.new.self c.renew.new.filmed.caches c.renew.new.updates c.renew.new.filmed.frames c.self.invariant
    (subst (λ s. Enabled s Act) (sym c.self.view_is) c.requires.enabled) (ap head c.self.view_is ∙ c.requires.head) (record { left = c.pop.ensures.left; outcomes = c.pop.ensures.outcomes }) c.in-Ok.ensures.ok c.renew.ensures.caches c.renew.ensures.updates c.renew.ensures.frames).desk

pub invariant_of-self-in-Err-Tree : goal.invariant_of-self-in-Err-Tree
invariant_of-self-in-Err-Tree c = subst (λ store. IsDesk (record (parts_of c.self.inside) { queue = c.pop-in-Err-Tree.new.self; store = store })) (sym c.in-Err-Tree.ensures.err)
    (refused_does (parts_of c.self.inside) c.args.change.now c.in-Err-Tree.fault c.pop-in-Err-Tree.new.self c.self.invariant
    (subst (λ s. Enabled s Act) (sym c.self.view_is) c.requires.enabled) (ap head c.self.view_is ∙ c.requires.head) (record { left = c.pop-in-Err-Tree.ensures.left; outcomes = c.pop-in-Err-Tree.ensures.outcomes }) (c.in-Err-Tree.ensures.tree c.in-Err-Tree.fault (ap Err c.in-Err-Tree.field-0-is))).desk
