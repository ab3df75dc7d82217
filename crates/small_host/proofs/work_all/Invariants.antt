use Rattle.machine_model.specs.Remaining.{left}
use Rattle.desk_state.specs.Settles.{Settles}
use Rattle.small_host.proofs.work_all.Given as goal

-- events other than feeding led here
abbrev pub invariant-turns : goal.invariant-turns
invariant-turns g l = Settles l.initial.desk l.desk

-- each turn leaves fewer events
abbrev pub decreases-turns : goal.decreases-turns
decreases-turns g l = left l.desk
