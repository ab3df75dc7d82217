use Rattle.desk_events.proofs.Exactly.{refuses}
use Rattle.desk_events.proofs.WalkedRows.{read_is, read_own}
use Rattle.desk_events.proofs.machine.Machine.reads_as_work.Goals as goal

pub returns-in-Some : goal.returns-in-Some
returns-in-Some c = (
  (λ t. read_is c.args.self.now c.args.slot.place c.args.slot.serial c.in-Some.walker.now c.args.composed.now c.args.key c.in-Some.ensures.some.runs c.in-Some.ensures.some.drawn (c.reads_alike.ensures.0 t)),
  (λ m. c.reads_alike.ensures.1 (read_own c.args.self.now c.args.slot.place c.args.slot.serial c.in-Some.walker.now c.args.composed.now c.args.key c.in-Some.ensures.some.runs m)),
)

pub returns-in-None : goal.returns-in-None
returns-in-None c = refuses (λ m. c.in-None.ensures.none m.walker m.runs m.drawn)
