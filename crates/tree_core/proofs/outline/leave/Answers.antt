use Rattle.std.proofs.Common.{◌∙◌, ◌-◌, ◌++◌, ◌∷◌, false, List, [], get_or, ap, arith}
use Rattle.pixel_core.specs.declared.blending.Op.TheVariants.{Over}
use Rattle.tree_core.specs.declared.node.Node.{Node}
use Rattle.tree_core.specs.declared.outline.Stage.TheVariants.{Close}
use Rattle.tree_core.proofs.OutlineDue.{left_more}
use Rattle.tree_core.proofs.outline.leave.Goals as goal

-- what an index beyond the end would give
abbrev no_node : Node
no_node = record { depth = 0; id = 0; look = record { opacity = 0; op = Over; visible = false }; paints = false }

pub loop-left-preserved : goal.loop-left-preserved
loop-left-preserved c = left_more c.args.around.now.items c.loop-left.stages.items c.push.new.self.items c.args.stages.now.items c.args.depth c.loop-left.left (c.loop-left.left - 1) no_node (omega arith) (omega arith) (omega arith)
    (c.in_ok-push.ensures.items ∙ ap (λ (xs : List Node). c.loop-left.stages.items ++ Close (get_or xs (c.loop-left.left - 1) no_node).look ∷ []) c.deref.ensures.0)
    c.loop-left.invariant.1
