use Rattle.desk_state.specs.Parts.{walker_of}
use Rattle.desk_events.proofs.WalkedRows.{row_may, row_of}
use Rattle.desk_events.proofs.Exactly.{exactly, refuses}
use Rattle.desk_events.proofs.machine.Machine.may_publish_row.Goals as goal

pub is_row_of_walk-requires : goal.is_row_of_walk-requires
is_row_of_walk-requires c = c.requires (walker_of c.in-Some.walker.now) c.in-Some.ensures.some.runs c.in-Some.ensures.some.drawn

pub returns-in-Some : goal.returns-in-Some
returns-in-Some c = exactly c.is_row_of_walk.result
    (λ h. row_may c.args.self.now c.args.slot.place c.args.slot.serial c.in-Some.walker.now c.args.composed.now c.args.key c.in-Some.ensures.some.runs c.in-Some.ensures.some.drawn (c.is_row_of_walk.ensures.some h))
    (λ h m. c.is_row_of_walk.ensures.none h (row_of c.args.self.now c.args.slot.place c.args.slot.serial c.in-Some.walker.now c.args.composed.now c.args.key c.in-Some.ensures.some.runs m))

pub returns-in-None : goal.returns-in-None
returns-in-None c = refuses (λ m. c.in-None.ensures.none m.walker m.runs m.drawn)
