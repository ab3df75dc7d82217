use Rattle.desk_steps.proofs.Arranged.{Emptied}
use Rattle.desk_steps.proofs.arrangement.emptied.Given as goal

-- what was passed is empty, where it is no layer
abbrev pub invariant-loop-id : goal.invariant-loop-id
invariant-loop-id l = Emptied l.tree l.devices l.slots.items l.id-iterator
