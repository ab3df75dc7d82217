use Rattle.std.proofs.Common.{◌≡◌, ◌-◌, drop, length}
use Rattle.tree_core.proofs.Once.{times_in}
use Rattle.tree_core.proofs.lookup.above.Given as goal

abbrev pub invariant-loop-back : goal.invariant-loop-back
invariant-loop-back l = times_in l.id (drop (length l.nodes - l.back) l.nodes) ≡ 0
