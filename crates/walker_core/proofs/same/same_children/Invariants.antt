use Rattle.walker_core.proofs.SameReadings.{Sides}
use Rattle.walker_core.proofs.same.same_children.Given as goal

-- what is left of both lists is alike exactly where both are
abbrev pub invariant-loop-i : goal.invariant-loop-i
invariant-loop-i l = Sides l.rect l.key l.group l.xs l.ys l.i l.from
