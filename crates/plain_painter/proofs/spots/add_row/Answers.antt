use Rattle.std.proofs.Common.{arith}
use borrow.Author.Differences.{ints}
use Rattle.plain_painter.proofs.Points.{pushed_point}
use Rattle.plain_painter.proofs.spots.add_row.Goals as goal

pub loop-i-preserved : goal.loop-i-preserved
loop-i-preserved c = pushed_point c.args.spots.now.items c.loop-i.spots.items c.push.new.self.items _ _ _ c.loop-i.i c.in_ok-push.ensures.items (omega (arith, ints)) (omega (arith, ints)) c.loop-i.invariant
