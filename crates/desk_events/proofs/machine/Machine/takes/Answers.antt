use Rattle.desk_events.proofs.AtWork.{job_takes, job_taken}
use Rattle.desk_events.proofs.Exactly.{exactly, refuses}
use Rattle.desk_events.proofs.machine.Machine.takes.Goals as goal

pub takes_painted-requires-clause-checked : goal.takes_painted-requires-clause-checked
takes_painted-requires-clause-checked c = c.in-Some.ensures.some.checked

pub takes_painted-requires-clause-limits : goal.takes_painted-requires-clause-limits
takes_painted-requires-clause-limits c = c.in-Some.ensures.some.limits

pub takes_painted-requires-clause-kept : goal.takes_painted-requires-clause-kept
takes_painted-requires-clause-kept c = c.in-Some.ensures.some.seen

pub returns-in-Some : goal.returns-in-Some
returns-in-Some c = exactly c.takes_painted.result
    (λ h. job_takes c.args.self.now c.args.slot.place c.args.slot.serial c.in-Some.painter.now c.args.painted.now c.in-Some.ensures.some (c.takes_painted.ensures.some h))
    (λ h t. c.takes_painted.ensures.none h (job_taken c.args.self.now c.args.slot.place c.args.slot.serial c.in-Some.painter.now c.args.painted.now c.in-Some.ensures.some t))

pub returns-in-None : goal.returns-in-None
returns-in-None c = refuses (λ t. c.in-None.ensures.none t.painter t.runs t.drawn)
