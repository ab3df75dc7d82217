use Rattle.std.proofs.Common.{◌∙◌, arith}
use Rattle.tree_core.proofs.OutlineDue.{unseen_passed, deep_passed, layer_laid, group_entered}
use Rattle.tree_core.proofs.outline.enter.Goals as goal

pub returns-then-not-node : goal.returns-then-not-node
returns-then-not-node c = λ rows. unseen_passed c.args.node.now c.args.around.now.items c.args.stages.now.items rows (grind arith) c.requires

pub returns-then-len-node : goal.returns-then-len-node
returns-then-len-node c = λ rows. deep_passed c.args.node.now c.args.around.now.items c.args.stages.now.items rows (λ e. c.if-len-node.true (c.len.ensures.value ∙ e)) c.requires

pub returns-then-node : goal.returns-then-node
returns-then-node c = λ rows. layer_laid c.args.node.now c.args.around.now.items c.args.stages.now.items c.push.new.self.items rows (grind arith) c.if-node.true (omega arith) c.in_ok-push.ensures.items

pub returns : goal.returns
returns c = λ rows. group_entered c.args.node.now c.args.around.now.items c.push-2.new.self.items c.args.stages.now.items c.push-3.new.self.items rows (grind arith) c.if-node.false (omega arith) c.push-2.ensures.items c.in_ok-push-2.ensures.items
