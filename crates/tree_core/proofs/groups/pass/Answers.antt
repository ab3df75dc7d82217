use Rattle.std.proofs.Common.{◌∙◌, ◌++◌, ◌∷◌, ap, arith}
use Rattle.tree_core.specs.Nodes.{row_of}
use Rattle.tree_core.proofs.groups.pass.Goals as goal

pub returns-clause-due : goal.returns-clause-due
returns-clause-due c = λ rows. ap (λ t. c.leave.new.groups.items ++ t) (c.enter.ensures.due rows) ∙ c.leave.ensures.due (row_of c.args.node.now ∷ rows) (omega arith)
