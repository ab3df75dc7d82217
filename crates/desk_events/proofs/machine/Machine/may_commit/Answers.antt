use Rattle.desk_events.proofs.Committing.{may_commit_is, of_own, commit_lacks}
use Rattle.desk_events.proofs.Exactly.{exactly_if, refuses}
use Rattle.desk_events.proofs.machine.Machine.may_commit.Goals as goal

pub are_lacking-requires-clause-checked : goal.are_lacking-requires-clause-checked
are_lacking-requires-clause-checked c = c.in-Some.ensures.some.checked

pub are_lacking-requires-clause-limits : goal.are_lacking-requires-clause-limits
are_lacking-requires-clause-limits c = c.in-Some.ensures.some.limits

pub are_lacking-requires-clause-of : goal.are_lacking-requires-clause-of
are_lacking-requires-clause-of c = of_own c.args.self.now c.args.slot.place c.args.slot.serial c.in-Some.painter.now c.args.tiles.now c.in-Some.ensures.some c.requires

pub returns-in-Some : goal.returns-in-Some
returns-in-Some c = exactly_if c.are_lacking.result
    (λ h. may_commit_is c.args.self.now c.args.slot.place c.args.slot.serial c.in-Some.painter.now c.args.tiles.now c.in-Some.ensures.some (c.are_lacking.ensures.some h))
    (λ h m. c.are_lacking.ensures.none h (commit_lacks c.args.self.now c.args.slot.place c.args.slot.serial c.in-Some.painter.now c.args.tiles.now c.in-Some.ensures.some m))

pub returns-in-None : goal.returns-in-None
returns-in-None c = refuses (λ m. c.in-None.ensures.none m.painter m.runs m.drawn)
