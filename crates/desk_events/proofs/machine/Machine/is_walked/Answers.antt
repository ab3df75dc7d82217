use Rattle.desk_events.proofs.Ending.{walk_ends, no_walk_ends}
use Rattle.desk_events.proofs.machine.Machine.is_walked.Goals as goal

pub returns-in-Some : goal.returns-in-Some
returns-in-Some c = walk_ends c.args.self.now c.args.slot.place c.args.slot.serial c.in-Some.walker.now c.is_composed.result c.in-Some.ensures.some c.is_composed.ensures

pub returns-in-None : goal.returns-in-None
returns-in-None c = no_walk_ends c.args.self.now c.args.slot.place c.args.slot.serial c.in-None.ensures.none
