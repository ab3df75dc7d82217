use Rattle.std.proofs.Common.{sym, ap, ◌∙◌, subst}
use Rattle.desk_events.specs.declared.tickets.WalkTicket.{WalkTicket}
use Rattle.desk_events.specs.Commits.{ReadsAsWork}
use Rattle.stamped_desk.proofs.Drawing.{settles_draws, walk_known}
use Rattle.stamped_desk.proofs.desk.StampedDesk.publish_row.Goals as goal

pub publish_known_row-requires : goal.publish_known_row-requires
publish_known_row-requires g c =
    subst (λ (t : WalkTicket). ReadsAsWork c.self.inside.desk t.slot.place t.slot.serial c.args.composed.now c.args.key) (c.walk.view_is ∙ sym c.ticket.ensures)
    (walk_known c.self.inside.desk c.self.inside.stamps c.walk.inside.stamp c.walk.inside.ticket c.args.composed.now c.args.key c.self.invariant (c.knows.ensures c.if-knows.true) c.walk.invariant
    (c.requires ∙ ap (λ (t : WalkTicket). t.inputs) (sym c.walk.view_is)))

pub invariant_of-self : goal.invariant_of-self
invariant_of-self g c = settles_draws c.self.inside.desk c.publish_known_row.new.self c.self.inside.stamps c.publish_known_row.ensures.runs c.self.invariant

pub invariant_of-self-else-knows : goal.invariant_of-self-else-knows
invariant_of-self-else-knows g c = settles_draws c.self.inside.desk c.publish_row.new.self c.self.inside.stamps c.publish_row.ensures.runs c.self.invariant
