use Rattle.std.proofs.Common.{[], sym, subst}
use Rattle.machine_model.specs.Event.{End}
use Rattle.desk_state.specs.Enabled.{Enabled}
use Rattle.desk_events.specs.Kept.{parts_of}
use Rattle.desk_events.specs.Commits.{MayCommit}
use Rattle.desk_events.proofs.Committing.{may_end_now}
use Rattle.desk_events.proofs.machine.Machine.tell_ends.Goals as goal

pub returns : goal.returns
returns c = subst (λ s. Enabled s (End c.args.slot.place)) c.self.view_is
    (may_end_now (parts_of c.self.inside) c.args.slot.place c.args.slot.serial c.self.invariant (subst (λ s. MayCommit s c.args.slot.place c.args.slot.serial []) (sym c.self.view_is) c.requires))
