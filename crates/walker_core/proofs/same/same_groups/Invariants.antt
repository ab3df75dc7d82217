use Rattle.walker_core.proofs.SameReadings.{Path_left}
use Rattle.walker_core.proofs.same.same_groups.Given as goal

-- the groups that are left are alike exactly where all are
abbrev pub invariant-loop-i : goal.invariant-loop-i
invariant-loop-i l = Path_left l.rect l.key l.path l.xs l.ys l.i
