use Rattle.std.proofs.Common.{◌≡◌, ◌∙◌, arith}
use Rattle.std.proofs.lemmas.Grind.{common_steps}
use Rattle.tree_core.proofs.Passes.{kids, kids_is}
use Rattle.tree_core.proofs.lookup.children_at.Goals as goal

pub returns-then-n-depth-clause-value : goal.returns-then-n-depth-clause-value
returns-then-n-depth-clause-value c =
    let e : c.loop-n.count ≡ kids c.args.depth c.args.nodes.now = grind (arith, common_steps) in e ∙ kids_is c.args.depth c.args.nodes.now

pub returns-clause-value : goal.returns-clause-value
returns-clause-value c =
    let e : c.loop-n.count ≡ kids c.args.depth c.args.nodes.now = grind (arith, common_steps) in e ∙ kids_is c.args.depth c.args.nodes.now
