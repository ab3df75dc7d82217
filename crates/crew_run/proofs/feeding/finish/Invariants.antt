use Rattle.std.proofs.Common.{◌≡◌, take}
use Rattle.crew_run.proofs.feeding.finish.Given as goal

-- the first commands were fed
abbrev pub invariant-loop-i : goal.invariant-loop-i
invariant-loop-i g l = (l.desk.canvas ≡ l.script.canvas) × (l.desk.fed ≡ take l.i l.script.commands)
