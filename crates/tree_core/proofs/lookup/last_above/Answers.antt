use Rattle.std.proofs.Common.{◌∙◌, sym}
use Rattle.tree_core.proofs.Above.{low_found, low_next}
use Rattle.tree_core.proofs.lookup.last_above.Goals as goal

pub returns-then-n-depth : goal.returns-then-n-depth
returns-then-n-depth c = sym (c.loop-back.invariant ∙ low_found c.args.depth c.args.nodes.now c.loop-back.back _ c.loop-back-test.true c.if-n-depth.true)

pub loop-back-preserved : goal.loop-back-preserved
loop-back-preserved c = c.loop-back.invariant ∙ low_next c.args.depth c.args.nodes.now c.loop-back.back _ c.loop-back-test.true c.if-n-depth.false
