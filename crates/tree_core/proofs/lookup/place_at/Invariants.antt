use Rattle.std.specs.List.{remove_range}
use Rattle.tree_core.proofs.Places.{Reached}
use Rattle.tree_core.proofs.lookup.place_at.Given as goal

abbrev pub invariant-loop-i : goal.invariant-loop-i
invariant-loop-i l = Reached l.group.depth l.place l.group.start (remove_range l.nodes l.branch.start l.branch.end) l.i l.passed
