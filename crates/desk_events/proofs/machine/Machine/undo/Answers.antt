use Rattle.std.proofs.Common.{refl, sym, ap, ◌∙◌, subst}
use Rattle.machine_model.specs.State.{head}
use Rattle.machine_model.specs.Event.{Act}
use Rattle.desk_state.specs.Enabled.{Enabled}
use Rattle.desk_state.proofs.ActDoing.{undo_none_does}
use Rattle.desk_events.specs.Kept.{parts_of}
use Rattle.desk_events.proofs.ActsMove.{undo_moves}
use Rattle.desk_events.proofs.machine.Machine.undo.Goals as goal

pub invariant_of-self : goal.invariant_of-self
invariant_of-self g c = (undo_moves (parts_of c.self.inside) c.in-Some.back c.pop.new.self c.undo.new.self c.move_by.new.filmed.caches c.move_by.new.updates c.move_by.new.filmed.frames c.self.invariant
    (subst (λ s. Enabled s Act) (sym c.self.view_is) c.requires.enabled) (ap head c.self.view_is ∙ c.requires.head) (record { left = c.pop.ensures.left; outcomes = c.pop.ensures.outcomes }) c.undo.ensures.new c.in-Some.ensures.reach
    (record { caches = c.move_by.ensures.caches; updates = c.move_by.ensures.updates; frames_stay = c.move_by.ensures.frames })).desk

pub invariant_of-self-in-None : goal.invariant_of-self-in-None
invariant_of-self-in-None g c = (undo_none_does (parts_of c.self.inside) c.pop-in-None.new.self c.undo.new.self c.self.invariant
    (subst (λ s. Enabled s Act) (sym c.self.view_is) c.requires.enabled) (ap head c.self.view_is ∙ c.requires.head) (c.in-None.ensures.none.0 refl) (record { left = c.pop-in-None.ensures.left; outcomes = c.pop-in-None.ensures.outcomes }) c.undo.ensures.new).desk
