use Rattle.std.proofs.Common.{◌≡◌, drop}
use Rattle.std.specs.Prelude.{max}
use Rattle.tree_core.specs.Nodes.{greatest_depth}
use Rattle.tree_core.proofs.lookup.deepest.Given as goal

abbrev pub invariant-loop-n : goal.invariant-loop-n
invariant-loop-n l = greatest_depth l.nodes ≡ max l.most (greatest_depth (drop l.n-index l.nodes))
