use Rattle.tree_core.proofs.Looks.{look_set, look_kept}
use Rattle.tree_core.proofs.edits.set_look.Goals as goal
use Rattle.tree_core.proofs.edits.set_look.Goals.{then-nodes-i, else-nodes-i}

pub loop-i-preserved : goal.loop-i-preserved
loop-i-preserved c = elim c.if-nodes-i.branch [
  | then-nodes-i w ↦ look_set c.args.id c.args.look c.args.nodes.now c.loop-i.nodes c.loop-i.i _ c.loop-i.there c.if-nodes-i.nodes c.if-nodes-i.there c.loop-i-test.true c.loop-i.invariant w.if-nodes-i.true w.nodes-is w.there-is
  | else-nodes-i w ↦ look_kept c.args.id c.args.look c.args.nodes.now c.loop-i.nodes c.loop-i.i _ c.loop-i.there c.if-nodes-i.nodes c.if-nodes-i.there c.loop-i-test.true c.loop-i.invariant w.if-nodes-i.false w.nodes-is w.there-is
]
