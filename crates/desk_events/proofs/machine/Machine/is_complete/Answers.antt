use Rattle.desk_events.proofs.Ending.{job_ends, no_job_ends}
use Rattle.desk_events.proofs.machine.Machine.is_complete.Goals as goal

pub is_painted-requires : goal.is_painted-requires
is_painted-requires c = c.in-Some.ensures.some.checked

pub returns-in-Some : goal.returns-in-Some
returns-in-Some c = job_ends c.args.self.now c.args.slot.place c.args.slot.serial c.in-Some.painter.now c.is_painted.result c.in-Some.ensures.some c.is_painted.ensures

pub returns-in-None : goal.returns-in-None
returns-in-None c = no_job_ends c.args.self.now c.args.slot.place c.args.slot.serial c.in-None.ensures.none
