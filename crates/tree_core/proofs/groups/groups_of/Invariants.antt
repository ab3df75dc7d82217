use Rattle.std.proofs.Common.{◌≡◌, ◌≤◌, ◌+◌, ◌++◌, length, drop}
use Rattle.doc_model.specs.Readers.{order}
use Rattle.tree_core.specs.Nodes.{rows_of, tree_of}
use Rattle.tree_core.specs.Around.{due}
use Rattle.tree_core.proofs.groups.groups_of.Given as goal

-- the groups so far, with those that are still to come, are all
abbrev pub invariant-loop-node : goal.invariant-loop-node
invariant-loop-node l = (length l.around.items + length l.groups.items ≤ l.node-index) × (l.groups.items ++ due 0 l.around.items (rows_of (drop l.node-index l.nodes)) ≡ order (tree_of l.nodes))
