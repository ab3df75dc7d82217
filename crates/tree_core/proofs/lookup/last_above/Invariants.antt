use Rattle.std.proofs.Common.{◌≡◌, ◌-◌, take, length}
use Rattle.tree_core.specs.Nodes.{last_low}
use Rattle.tree_core.proofs.lookup.last_above.Given as goal

abbrev pub invariant-loop-back : goal.invariant-loop-back
invariant-loop-back l = last_low l.depth 0 l.nodes ≡ last_low l.depth 0 (take (length l.nodes - l.back) l.nodes)
