use Rattle.std.proofs.Common.{arith}
use Rattle.tree_core.proofs.Replaced.{one_back}
use Rattle.tree_core.proofs.common.common_back.Goals as goal

pub loop-back-preserved : goal.loop-back-preserved
loop-back-preserved c = record {
  within = omega (arith, c.loop-back-test.true);
  there = omega (arith, c.if-back-there.true);
  same = one_back c.args.here.now c.args.there.now c.loop-back.back _ c.loop-back-test.true c.if-back-there.true (c.same.ensures c.if-same.true) c.loop-back.invariant.same;
}
