use Rattle.desk_events.proofs.SameWalks.{RestDecides}
use Rattle.desk_events.proofs.machine.Machine.all_walk.Given as goal

-- the slots so far have no other walk
abbrev pub invariant-loop-place : goal.invariant-loop-place
invariant-loop-place l = RestDecides l.walk l.place l.self.slots
