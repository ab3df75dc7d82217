use Rattle.std.proofs.Common.{◌∙◌, sym, arith}
use Rattle.tree_core.proofs.GroupsDue.{layer_passed, deep_passed, group_entered}
use Rattle.tree_core.proofs.groups.enter.Goals as goal

pub returns-then-node-clause-due : goal.returns-then-node-clause-due
returns-then-node-clause-due c = λ rows. layer_passed c.args.node.now c.args.around.now.items rows c.if-node.true (omega (arith, c.requires.inside, c.requires.depth))

pub returns-then-len-depth-clause-due : goal.returns-then-len-depth-clause-due
returns-then-len-depth-clause-due c = λ rows. deep_passed c.args.node.now c.args.around.now.items rows (λ e. c.if-len-depth.true (c.len.ensures.value ∙ e ∙ sym c.requires.depth)) (omega (arith, c.requires.inside, c.requires.depth))

pub returns-clause-due : goal.returns-clause-due
returns-clause-due c = λ rows. group_entered c.args.node.now c.args.around.now.items c.push.new.self.items rows c.if-node.false (sym c.len.ensures.value ∙ c.if-len-depth.false ∙ c.requires.depth) c.push.ensures.items
