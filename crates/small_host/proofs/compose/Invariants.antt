use Rattle.desk_state.specs.Settles.{Settles}
use Rattle.small_host.proofs.compose.Given as goal

-- events other than feeding led here
abbrev pub invariant-loop-i : goal.invariant-loop-i
invariant-loop-i l = Settles l.initial.desk l.desk
