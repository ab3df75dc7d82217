use Rattle.desk_events.proofs.Untouched.{spared_more}
use Rattle.desk_events.proofs.sparing.are_spared.Goals as goal
use Rattle.desk_events.proofs.sparing.are_spared.Goals.{else-j-own-via-then-j-own+else-may_change, else-j-own-via-else-j-own}

pub loop-j-preserved : goal.loop-j-preserved
loop-j-preserved c = spared_more c.args.jobs.now c.args.since c.args.own c.loop-j.j c.args.key c.loop-j.invariant (λ other. elim c.else-j-own.branch [
  | else-j-own-via-then-j-own+else-may_change w ↦ w.may_change.ensures w.if-may_change.false
  | else-j-own-via-else-j-own w ↦ absurd (other w.if-j-own.false)
])
