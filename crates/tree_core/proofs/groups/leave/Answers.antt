use Rattle.std.proofs.Common.{◌∙◌, ◌+◌, ◌-◌, ◌++◌, ◌∷◌, [], length, get_or, ap, arith}
use Rattle.tree_core.proofs.GroupsDue.{left_more}
use Rattle.tree_core.proofs.groups.leave.Goals as goal

pub loop-left-preserved : goal.loop-left-preserved
loop-left-preserved c = left_more c.args.around.now.items c.loop-left.groups.items c.push.new.self.items c.args.groups.now.items c.args.depth c.loop-left.left (c.loop-left.left - 1) (length c.args.around.now.items + length c.args.groups.now.items)
    (omega arith) (omega arith) (omega arith)
    (c.push.ensures.items ∙ ap (λ xs. c.loop-left.groups.items ++ get_or xs (c.loop-left.left - 1) 0 ∷ []) c.deref.ensures.0)
    c.loop-left.invariant.1.0 c.loop-left.invariant.1.1
