use Rattle.std.proofs.Common.{◌≡◌, ◌++◌, drop, take, map}
use Rattle.tree_core.specs.Nodes.{moved_node}
use Rattle.tree_core.proofs.edits.relevel.Given as goal

abbrev pub invariant-loop-n : goal.invariant-loop-n
invariant-loop-n l = l.nodes ≡ map (moved_node l.from l.to) (take l.n-index l.initial.nodes) ++ drop l.n-index l.initial.nodes
