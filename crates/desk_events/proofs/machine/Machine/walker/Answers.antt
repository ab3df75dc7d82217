use Rattle.std.proofs.Common.{Some, sym, ap, ◌∙◌, subst}
use Rattle.desk_events.specs.AtWork.{HasWalk, HasNoWalk}
use Rattle.desk_events.specs.Kept.{parts_of}
use Rattle.desk_events.proofs.AtWork.{has_walk, other_walk, job_no_walk, none_no_walk}
use Rattle.desk_events.proofs.machine.Machine.walker.Goals as goal

pub returns-then-walker-slot-clause-some : goal.returns-then-walker-slot-clause-some
returns-then-walker-slot-clause-some c = subst (λ s. HasWalk s c.args.slot.place c.args.slot.serial c.in-Some-Walk.walker) c.self.view_is
    (has_walk (parts_of c.self.inside) c.args.slot.place c.args.slot.serial c.in-Some-Walk.walker c.self.invariant (sym c.in-Some-Walk.ensures ∙ ap Some c.in-Some-Walk.field-0-is) c.if-walker-slot.true)

pub returns-else-walker-slot-clause-none : goal.returns-else-walker-slot-clause-none
returns-else-walker-slot-clause-none c = subst (λ s. HasNoWalk s c.args.slot.place c.args.slot.serial) c.self.view_is
    (other_walk (parts_of c.self.inside) c.args.slot.place c.args.slot.serial c.in-Some-Walk.walker (sym c.in-Some-Walk.ensures ∙ ap Some c.in-Some-Walk.field-0-is) c.if-walker-slot.false)

pub returns-in-Some-Paint-clause-none : goal.returns-in-Some-Paint-clause-none
returns-in-Some-Paint-clause-none c = subst (λ s. HasNoWalk s c.args.slot.place c.args.slot.serial) c.self.view_is
    (job_no_walk (parts_of c.self.inside) c.args.slot.place c.args.slot.serial _ (sym c.in-Some-Paint.ensures ∙ ap Some c.in-Some-Paint.field-0-is))

pub returns-in-None-clause-none : goal.returns-in-None-clause-none
returns-in-None-clause-none c = subst (λ s. HasNoWalk s c.args.slot.place c.args.slot.serial) c.self.view_is
    (none_no_walk (parts_of c.self.inside) c.args.slot.place c.args.slot.serial (sym c.in-None.ensures))
