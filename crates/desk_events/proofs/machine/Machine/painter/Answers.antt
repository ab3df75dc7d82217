use Rattle.std.proofs.Common.{Some, sym, ap, ◌∙◌, subst}
use Rattle.desk_events.specs.AtWork.{HasJob, HasNoJob}
use Rattle.desk_events.specs.Kept.{parts_of}
use Rattle.desk_events.proofs.AtWork.{has_job, other_job, walk_no_job, none_no_job}
use Rattle.desk_events.proofs.machine.Machine.painter.Goals as goal

pub returns-then-painter-slot-clause-some : goal.returns-then-painter-slot-clause-some
returns-then-painter-slot-clause-some c = subst (λ s. HasJob s c.args.slot.place c.args.slot.serial c.in-Some-Paint.painter) c.self.view_is
    (has_job (parts_of c.self.inside) c.args.slot.place c.args.slot.serial c.in-Some-Paint.painter c.self.invariant (sym c.in-Some-Paint.ensures ∙ ap Some c.in-Some-Paint.field-0-is) c.if-painter-slot.true)

pub returns-else-painter-slot-clause-none : goal.returns-else-painter-slot-clause-none
returns-else-painter-slot-clause-none c = subst (λ s. HasNoJob s c.args.slot.place c.args.slot.serial) c.self.view_is
    (other_job (parts_of c.self.inside) c.args.slot.place c.args.slot.serial c.in-Some-Paint.painter (sym c.in-Some-Paint.ensures ∙ ap Some c.in-Some-Paint.field-0-is) c.if-painter-slot.false)

pub returns-in-Some-Walk-clause-none : goal.returns-in-Some-Walk-clause-none
returns-in-Some-Walk-clause-none c = subst (λ s. HasNoJob s c.args.slot.place c.args.slot.serial) c.self.view_is
    (walk_no_job (parts_of c.self.inside) c.args.slot.place c.args.slot.serial _ (sym c.in-Some-Walk.ensures ∙ ap Some c.in-Some-Walk.field-0-is))

pub returns-in-None-clause-none : goal.returns-in-None-clause-none
returns-in-None-clause-none c = subst (λ s. HasNoJob s c.args.slot.place c.args.slot.serial) c.self.view_is
    (none_no_job (parts_of c.self.inside) c.args.slot.place c.args.slot.serial (sym c.in-None.ensures))
