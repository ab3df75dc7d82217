use Rattle.std.proofs.Common.{ap, ◌∙◌, set}
use Rattle.tree_core.specs.Nodes.{moved_node}
use Rattle.tree_core.proofs.Shifts.{one_changed}
use Rattle.tree_core.proofs.edits.relevel.Goals as goal

pub loop-n-preserved : goal.loop-n-preserved
loop-n-preserved c = ap (set c.loop-n.nodes c.loop-n.n-index) c.moved_node.ensures ∙ one_changed (moved_node c.args.from c.args.to) c.args.nodes.now c.loop-n.nodes c.loop-n.n-index _ c.loop-n.invariant c.loop-n-test.true
