use Rattle.desk_events.proofs.Committing.{made_is, made_own}
use Rattle.desk_events.proofs.Exactly.{exactly, refuses}
use Rattle.desk_events.proofs.machine.Machine.are_of_work.Goals as goal

pub are_of_job-requires : goal.are_of_job-requires
are_of_job-requires c = record { kept = c.in-Some.ensures.some.seen }

pub returns-in-Some : goal.returns-in-Some
returns-in-Some c = exactly c.are_of_job.result
    (λ h. made_is c.args.self.now c.args.slot.place c.args.slot.serial c.in-Some.painter.now c.args.tiles.now c.in-Some.ensures.some (c.are_of_job.ensures.some h))
    (λ h m. c.are_of_job.ensures.none h (made_own c.args.self.now c.args.slot.place c.args.slot.serial c.in-Some.painter.now c.args.tiles.now c.in-Some.ensures.some m))

pub returns-in-None : goal.returns-in-None
returns-in-None c = refuses (λ m. c.in-None.ensures.none m.painter m.runs m.drawn)
