use Rattle.std.proofs.Common.{[], drop, arith}
use Rattle.std.proofs.lemmas.List.{drop_all}
use Rattle.doc_model.specs.Readers.{order}
use Rattle.tree_core.specs.Nodes.{tree_of}
use Rattle.tree_core.proofs.GroupsDue.{none_passed, node_passed, all_passed}
use Rattle.tree_core.proofs.groups.groups_of.Goals as goal

pub loop-node-init : goal.loop-node-init
loop-node-init c = none_passed c.args.nodes.now c.new-around.result.items c.new-groups.result.items c.new-around.ensures c.new-groups.ensures

pub loop-node-preserved : goal.loop-node-preserved
loop-node-preserved c = (
  omega (arith, c.pass.ensures.count, c.loop-node.invariant.0),
  node_passed c.args.nodes.now c.loop-node.node-index _ c.loop-node.around.items c.loop-node.groups.items c.pass.new.around.items c.pass.new.groups.items (order (tree_of c.args.nodes.now)) (omega arith) c.pass.ensures.due c.loop-node.invariant.1,
)

pub returns-clause-order : goal.returns-clause-order
returns-clause-order c = all_passed c.loop-node.around.items c.loop-node.groups.items c.leave.new.around.items (tree_of c.args.nodes.now) (drop c.loop-node.node-index c.args.nodes.now) (drop_all c.loop-node.node-index c.args.nodes.now (omega arith)) c.loop-node.invariant.1 c.leave.ensures.inside c.leave.new.groups.items (c.leave.ensures.due [] tt)
