use Rattle.desk_events.proofs.Ending.{job_published, none_published}
use Rattle.desk_events.proofs.machine.Machine.has_published.Goals as goal

pub returns-in-Some : goal.returns-in-Some
returns-in-Some c = job_published c.args.self.now c.args.slot.place c.args.slot.serial c.in-Some.painter.now c.args.key c.has_key.result c.in-Some.ensures.some c.has_key.ensures

pub returns-in-None : goal.returns-in-None
returns-in-None c = none_published c.args.self.now c.args.slot.place c.args.slot.serial c.args.key c.in-None.ensures.none
