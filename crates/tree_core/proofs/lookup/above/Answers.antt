use Rattle.std.proofs.Common.{◌≡◌, arith}
use Rattle.std.proofs.lemmas.Grind.{common_steps}
use Rattle.tree_core.proofs.Once.{times_in}
use Rattle.tree_core.proofs.Above.{above_found, above_lost}
use Rattle.tree_core.proofs.lookup.above.Goals as goal

pub returns-then-nodes-at : goal.returns-then-nodes-at
returns-then-nodes-at c = above_found c.args.id c.args.nodes.now _ _ c.last_above.result c.requires.kept (omega (arith, c.loop-back-test.true)) c.if-nodes-at.true c.last_above.ensures

pub returns : goal.returns
returns c =
    let e : times_in c.args.id c.args.nodes.now ≡ 0 = grind (arith, common_steps) in above_lost c.args.id c.args.nodes.now c.requires.kept e
