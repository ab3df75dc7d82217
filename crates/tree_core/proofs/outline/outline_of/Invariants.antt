use Rattle.std.proofs.Common.{◌≡◌, ◌++◌, drop}
use Rattle.tree_core.specs.Nodes.{rows_of, tree_of}
use Rattle.tree_core.specs.Outline.{outline, outline_due}
use Rattle.tree_core.proofs.outline.outline_of.Given as goal

-- the stages so far, with those that are still to come, are all
abbrev pub invariant-loop-node : goal.invariant-loop-node
invariant-loop-node l = l.stages.items ++ outline_due 0 l.around.items (rows_of (drop l.node-index l.nodes)) ≡ outline (tree_of l.nodes)
