use Rattle.std.proofs.Common.{◌≡◌, ◌∙◌, ap, length, arith}
use Rattle.std.proofs.lemmas.Grind.{common_steps}
use Rattle.tree_core.proofs.Passes.{deeper, deeper_is}
use Rattle.tree_core.proofs.lookup.deeper.Goals as goal

pub returns-then-nodes-i-clause-value : goal.returns-then-nodes-i-clause-value
returns-then-nodes-i-clause-value c =
    let e : c.loop-i.i ≡ length (deeper c.args.depth c.args.nodes.now) = grind (arith, common_steps) in e ∙ ap length (deeper_is c.args.depth c.args.nodes.now)

pub returns-clause-value : goal.returns-clause-value
returns-clause-value c =
    let e : length c.args.nodes.now ≡ length (deeper c.args.depth c.args.nodes.now) = grind (arith, common_steps) in e ∙ ap length (deeper_is c.args.depth c.args.nodes.now)
